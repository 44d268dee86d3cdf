-- The walk back from a read, as the code has it.
use Rattle.std.specs.Prelude.{ℕ, ◌-◌, ◌==◌, Bool, ◌&&◌, false, nat_lt, length, is_some}
use Rattle.std.specs.Prelude.{if◌then◌else◌}
use Rattle.wf_model.specs.declared.plan.Plan.{Plan}
use Rattle.wf_model.specs.declared.plan.HaloPart.{HaloPart}
use Rattle.wf_model.specs.declared.plan.PeriodPart.{PeriodPart}
use Rattle.wf_model.specs.declared.plan.Item.{Item}
use Rattle.wf_model.specs.Plans.{children, field_of}
use Rattle.wf_model.specs.Covered as covered
use Rattle.wf_model.specs.Covered.{Asked}
use Rattle.wf_model.specs.Cycle.{done}
use Rattle.wf_check_laws.specs.Backwards.{met_back, met_items, then_met}
use Rattle.wf_check_walk.specs.declared.cell.Cell.{Cell}
use Rattle.wf_check_walk.specs.declared.met.Met.{Met}
use Rattle.wf_check_walk.specs.declared.met.Met.TheVariants.{GoesOn, Ends}
use Rattle.wf_check_walk.specs.declared.patch.Patch.{Patch}
use Rattle.wf_check_walk.specs.declared.walk.Question.{Question}
use Rattle.wf_check_walk.specs.Place.{halo_sets, number_of, period_sets, split_of}

-- what is met
abbrev pub met_of : Met → covered.Met
met_of (GoesOn f) = covered.goes_on f
met_of (Ends b) = covered.ends b

-- a part sets the cell of a level
abbrev pub set_by_halo : Patch → Cell → ℕ → HaloPart → Bool
set_by_halo p c f part = (part.field == f) && halo_sets p part c

abbrev pub set_by_period : Patch → Cell → ℕ → PeriodPart → Bool
set_by_period p c f part = (part.field == f) && period_sets p part c

-- at an item
abbrev pub meets_at : Patch → Cell → Item → ℕ → covered.Met
meets_at p c it f =
    covered.meets p.plan.now (split_of p) p.number (number_of p) c.k c.j c.i (done it) f

-- at so many items backwards, down to the one of a number
abbrev pub met_items_at : Patch → Cell → ℕ → ℕ → ℕ → covered.Met
met_items_at p c n low f =
    met_items p.plan.now (split_of p) p.number (number_of p) c.k c.j c.i n low f

-- back from the item of a number, over two whole cycles
abbrev pub met_back_at : Patch → Cell → ℕ → ℕ → covered.Met
met_back_at p c n f = met_back p.plan.now (split_of p) p.number (number_of p) c.k c.j c.i n f

-- at the force of a nest
abbrev pub at_force : Plan → ℕ → ℕ → covered.Met
at_force plan d f =
    if nat_lt 1 d && is_some (field_of plan f).edge then covered.ends false else covered.goes_on f

-- at the feedbacks of all nests
abbrev pub at_feedback : Plan → ℕ → ℕ → covered.Met
at_feedback plan d f = if (plan.feedback && nat_lt 0 (length (children plan d)))
    && is_some (field_of plan f).up then covered.ends false else covered.goes_on f

-- at the cycle before, and at the one before that down to an item
unfoldable pub cycles_before : Patch → Cell → ℕ → ℕ → covered.Met
cycles_before p c n g =
    then_met (then_met (at_feedback p.plan.now p.number g) (λ h.
    then_met (met_items_at p c (length p.plan.now.items) 0 h) (at_force p.plan.now p.number)))
    (λ h. then_met (at_feedback p.plan.now p.number h)
    (met_items_at p c (length p.plan.now.items - n) n))

-- a read of a patch's domain
abbrev pub asked_by : Patch → Question → Asked
asked_by p q = record {
  domain = p.number;
  item = q.item;
  phase = q.phase.now;
  read = record { field = q.field; di = q.di; dk = q.dk; dj = q.dj };
}
