-- What a run on whole domains holds, and what is left of it.
use Rattle.std.specs.Prelude.{◌≡◌, ◌+◌, ◌^◌, ◌<◌, ◌≤◌, List, length, map, ℤ, Option, Some, None}
use Rattle.std.specs.Prelude.{Result, Ok, Err, slice_index_or}
use Rattle.wf_model.specs.declared.plan.Plan.{Plan}
use Rattle.wf_model.specs.declared.initial.Initial.{Initial}
use Rattle.wf_model.specs.Sound.{IsSoundPlan, IsRangedPlan, IsFittingInitial, IsSoundFirst}
use Rattle.wf_model.specs.declared.point.Point.{Point}
use Rattle.wf_model.specs.Plans.{domain_of, domains_of, begin_of}
use Rattle.wf_model.specs.Value.{Answers}
use Rattle.wf_model.specs.Grids.{Grids}
use Rattle.wf_model.specs.Outcome.{RunData, Overflow, no_lists, grids_at}
use Rattle.wf_grid.specs.Levels.{AreLists, lists_of}
use Rattle.wf_grid.specs.Takeable.{IsTable, HasRoom}

-- a plan, how its domains begin, and the numbers that they hold
pub record Held : Type 0 where
  pub plan : Plan
  pub initial : Initial

-- the run that begins with these numbers
abbrev pub run_of : Held → Answers → RunData
run_of w m = record { plan = w.plan; initial = w.initial; answers = m }

-- the same with other numbers
abbrev pub held_with : Held → List (List (List ℤ)) → Held
held_with w lists =
    record { plan = w.plan; initial = record { grids = lists; begins = w.initial.begins } }

-- the lists of all domains in some grids
abbrev pub all_lists : Plan → Grids → List (List (List ℤ))
all_lists plan g = map (λ d. lists_of plan d g) (domains_of plan)

-- the point of the first overflow
abbrev pub point_at_end : Result Grids Overflow → Option Point
point_at_end (Ok g) = None
point_at_end (Err o) = Some o.point

-- the grids at the end, or before the item that overflows
abbrev pub grids_at_end : RunData → Result Grids Overflow → Grids
grids_at_end r (Ok g) = g
grids_at_end r (Err o) = grids_at r o.place

-- the numbers of one domain
abbrev pub first_lists : Initial → List (List ℤ)
first_lists initial = slice_index_or initial.grids 0 no_lists

-- what a run of one domain needs to be settled
pub record IsReady (plan : Plan) (initial : Initial) (scratch : List ℤ) : Type 0 where
  pub sound : IsSoundPlan plan
  pub ranged : IsRangedPlan plan
  pub fitting : IsFittingInitial plan initial
  pub first : IsSoundFirst (domain_of plan 1)
  pub one_domain : length plan.domains ≡ 1
  pub domains : length initial.grids ≡ 1
  pub begins : 1 ≤ length initial.begins
  pub lists : AreLists plan 1 (first_lists initial)
  pub table : IsTable plan 1
  pub items : length plan.items < 2 ^ 32
  pub room : HasRoom plan 1 scratch
  pub steps : (begin_of initial.begins 1).steps + plan.steps < 2 ^ 64
