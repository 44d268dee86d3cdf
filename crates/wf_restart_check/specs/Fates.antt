-- What deeds are for a level, one after the other.
use Rattle.std.specs.Prelude.{ℕ, ◌==◌, Bool, true, false, ◌&&◌, nat_lt, List, [], ◌∷◌, ◌++◌, map}
use Rattle.std.specs.Prelude.{if◌then◌else◌}
use Rattle.std.specs.List.{list_any, range_with_len}
use Rattle.wf_model.specs.declared.plan.Plan.{Plan}
use Rattle.wf_model.specs.declared.plan.Phase.{Phase}
use Rattle.wf_model.specs.Reads.{Read, reads_of}
use Rattle.wf_model.specs.Live as live
use Rattle.wf_model.specs.Live.{Deed, fate, writes_all}
use Rattle.wf_restart_check.specs.declared.fate.Fate.{Fate}
use Rattle.wf_restart_check.specs.declared.fate.Fate.TheVariants.{Used, Overwritten, Followed}

abbrev pub fate_of : Fate → live.Fate
fate_of Used = live.used
fate_of Overwritten = live.overwritten
fate_of (Followed f) = live.followed f

abbrev pub is_used : live.Fate → Bool
is_used live.used = true
is_used live.overwritten = false
is_used (live.followed f) = false

-- what comes behind a deed that only names a level to follow
abbrev pub then_fate : live.Fate → (ℕ → live.Fate) → live.Fate
then_fate live.used rest = live.used
then_fate live.overwritten rest = live.overwritten
then_fate (live.followed f) rest = rest f

-- of deeds, one after the other
unfoldable pub fates : Plan → ℕ → List Deed → ℕ → live.Fate
fates plan d [] f = live.followed f
fates plan d (x ∷ xs) f = then_fate (fate plan d x f) (fates plan d xs)

-- a read is of the level
abbrev pub is_of : ℕ → Read → Bool
is_of f r = r.field == f

-- one of the reads is
abbrev pub reads_level : ℕ → List Read → Bool
reads_level f reads = list_any (is_of f) reads

-- of a phase
abbrev pub phase_fate : Plan → ℕ → Phase → ℕ → live.Fate
phase_fate plan d ph f =
    if list_any (λ (r : Read). r.field == f) (reads_of ph.expr) then live.used
    else (if (f == ph.writes) && writes_all plan d ph then live.overwritten else live.followed f)

-- a domain's force, and its nests' start
abbrev pub first_deeds : ℕ → Bool → List Deed
first_deeds d nests =
    (if nat_lt 1 d then live.forces ∷ [] else []) ++ (if nests then live.starts_nests ∷ [] else [])

-- its nests' force and feedback
abbrev pub middle_deeds : Plan → Bool → List Deed
middle_deeds plan nests = (if nests then live.forces ∷ [] else [])
    ++ (if nests && plan.feedback then live.feeds ∷ [] else [])

-- the frames, and its own feedback
abbrev pub last_deeds : Plan → ℕ → List Deed
last_deeds plan d = map live.emits (range_with_len 0 10)
    ++ (if nat_lt 1 d && plan.feedback then live.feeds ∷ [] else [])

-- up to the items, and all behind them
abbrev pub half_deeds : Plan → ℕ → Bool → List Deed
half_deeds plan d nests = first_deeds d nests ++ map live.item_done plan.items

abbrev pub rest_deeds : Plan → ℕ → Bool → List Deed
rest_deeds plan d nests = middle_deeds plan nests ++ last_deeds plan d
