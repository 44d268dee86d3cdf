-- The walk back from a read by the numbers of the items, with no list of what is looked back at.
use Rattle.std.specs.Prelude.{◌≡◌, ℕ, zero, suc, ◌+◌, ◌-◌, ◌≤◌, Bool, true, false, ◌&&◌, nat_lt}
use Rattle.std.specs.Prelude.{length, ℤ, is_some, if◌then◌else◌}
use Rattle.wf_model.specs.declared.plan.Plan.{Plan}
use Rattle.wf_model.specs.Plans.{field_of, item_of, children}
use Rattle.wf_model.specs.Patches.{Split}
use Rattle.wf_model.specs.Cycle.{done, cycle_of, before_items}
use Rattle.wf_model.specs.Covered.{Met, goes_on, ends, meets, walk, looked_back}

-- the end, or what is met on the level that it goes on with
abbrev pub then_met : Met → (ℕ → Met) → Met
then_met (goes_on f) rest = rest f
then_met (ends b) rest = ends b

-- no end is yes
abbrev pub is_yes : Met → Bool
is_yes (goes_on f) = true
is_yes (ends b) = b

module _ (plan : Plan) (split : Split) (d patch : ℕ) (k : ℕ) (j i : ℤ) where
  -- so many items backwards, down to the one of a number
  unfoldable pub met_items : ℕ → ℕ → ℕ → Met
  met_items zero low f = goes_on f
  met_items (suc n) low f =
      then_met (meets plan split d patch k j i (done (item_of plan (low + n))) f) (met_items n low)

  -- the force of a nest
  abbrev pub met_force : ℕ → Met
  met_force f = if nat_lt 1 d && is_some (field_of plan f).edge then ends false else goes_on f

  -- the feedbacks of all nests, which are as one
  abbrev pub met_feedback : ℕ → Met
  met_feedback f =
      if (plan.feedback && nat_lt 0 (length (children plan d))) && is_some (field_of plan f).up
      then ends false
      else goes_on f

  -- back to the beginning of the cycle, through the cycle before, and in the one before that down
  -- to the item again
  unfoldable pub met_back : ℕ → ℕ → Met
  met_back n f =
      then_met (then_met (met_items n 0 f) met_force)
      (λ g. then_met (then_met (met_feedback g)
      (λ h. then_met (met_items (length plan.items) 0 h) met_force))
      (λ h. then_met (met_feedback h) (met_items (length plan.items - n) n)))

-- the walk back from the item of a number is that
abbrev pub WalksGoByNumbers : Type 0
WalksGoByNumbers =
    (plan : Plan) (split : Split) (d patch k : ℕ) (j i : ℤ) (n f : ℕ) → n ≤ length plan.items →
    walk plan split d patch k j i (looked_back (cycle_of plan d) (length (before_items d) + n)) f
    ≡ is_yes (met_back plan split d patch k j i n f)
