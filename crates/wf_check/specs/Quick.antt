-- Reads that are covered whatever the table does in between.
use Rattle.std.specs.Prelude.{ℕ, ◌==◌, Bool, true, false, not, ◌&&◌, ◌||◌, nat_lt, length, is_some}
use Rattle.std.specs.Prelude.{ℤ, pos}
use Rattle.std.specs.List.{list_all}
use Rattle.wf_model.specs.declared.plan.Plan.{Plan}
use Rattle.wf_model.specs.declared.plan.Item.{Item}
use Rattle.wf_model.specs.declared.plan.Item.TheVariants as item
use Rattle.wf_model.specs.Plans.{children, field_of}
use Rattle.wf_model.specs.Covered.{Asked}
use Rattle.wf_check_laws.specs.Repeats.{both_or_neither}

-- an item neither writes a level nor exchanges it with another
abbrev pub leaves_alone : ℕ → Item → Bool
leaves_alone f (item.Halo parts) = true
leaves_alone f (item.Period parts) = true
leaves_alone f (item.Swap one two) = not (f == one) && not (f == two)
leaves_alone f (item.Phase ph) = not (f == ph.writes)

-- nothing ever changes the level in a domain
abbrev pub is_calm : Plan → ℕ → ℕ → Bool
is_calm plan d f =
    (not (nat_lt 1 d && is_some (field_of plan f).edge) && not
    ((plan.feedback && nat_lt 0 (length (children plan d))) && is_some (field_of plan f).up))
    && list_all (leaves_alone f) plan.items

-- two levels have the same points
abbrev pub has_same_points : Plan → ℕ → ℕ → Bool
has_same_points plan f g = both_or_neither (field_of plan f).stag_x (field_of plan g).stag_x
    && both_or_neither (field_of plan f).stag_y (field_of plan g).stag_y

-- a number is 0
abbrev pub is_zero : ℤ → Bool
is_zero (pos n) = n == 0
is_zero other = false

-- each patch computes its own points alone, and reads them
abbrev pub is_own_read : Plan → Asked → Bool
is_own_read plan a = ((is_zero a.read.di && is_zero a.read.dj) && (a.phase.extend == 0))
    && has_same_points plan a.read.field a.phase.writes
