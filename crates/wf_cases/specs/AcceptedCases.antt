-- Worked cases of plans that the halo check accepts: what the laws ask of a plan is met.
use Rattle.std.specs.Prelude.{ℕ, true, [], ◌∷◌}
use Rattle.wf_model.specs.declared.plan.Phase.{Phase}
use Rattle.wf_model.specs.declared.plan.Item.{Item}
use Rattle.wf_model.specs.declared.plan.Item.TheVariants as item
use Rattle.wf_model.specs.Outcome.{RunData}
use Rattle.wf_model.specs.Agreement.{IsAccepted}
use Rattle.wf_model.specs.DemoCase.{columns_layout}
use Rattle.wf_cases.specs.PlanCases.{q}
use Rattle.wf_cases.specs.RunCases.{neighbours, square, run_of_two}
use Rattle.wf_cases.specs.NestCases.{two, two_by_two}

-- phase q writes a margin mx 0 = a[-1,0,0] + a[1,0,0]
abbrev pub both_sides : ℕ → Phase
both_sides mx = record (q mx) { expr = neighbours }

-- a domain of 4 by 4 points and a nest of 3 by 3, which feeds back: a halo and the phase
abbrev pub nested : RunData
nested = record two { plan = record (two.plan) { items = square ∷ item.Phase (both_sides 1) ∷ [] } }

-- a row of 4 points that wraps: a halo, a period and the phase
abbrev pub period : Item
period = item.Period (record { field = 0; width = 1 } ∷ [])

abbrev pub round : RunData
round = run_of_two true 4 1 (square ∷ period ∷ item.Phase (both_sides 0) ∷ [])

pub record AcceptedPlans : Type 0 where
  pub with_a_nest : IsAccepted nested two_by_two
  pub with_a_period : IsAccepted round (columns_layout 3)
