-- The tests of domains and times, by the kinds that the code knows.
use Rattle.std.specs.Prelude.{ℕ, Bool, List, ◌++◌, map, Option}
use Rattle.wf_model.specs.declared.namelist.Value.{Value}
use Rattle.wf_model.specs.declared.config.Config.{Config}
use Rattle.wf_model.specs.declared.plan.Domain.{Domain}
use Rattle.wf_model.specs.declared.plan.Plan.{Plan}
use Rattle.wf_model.specs.declared.plan_fault.PlanFault.{PlanFault}
use Rattle.wf_model.specs.Reading.{first_fault}
use Rattle.wf_model.specs.PlanDomains.{amount, frames_names, minutes}
use Rattle.wf_model.specs.PlanTests.{Unbuilt, unbuilt, unbuilt_fault, interval_faults, is_above}
use Rattle.wf_model.specs.PlanTests.{is_set, nests_of, parent_fault, ratio_fault, size_fault}
use Rattle.wf_model.specs.PlanTests.{edge_fault, periodic_fault, step_fault, start_fault}
use Rattle.wf_plan_domains.specs.declared.built.Asks.{Asks}
use Rattle.wf_plan_domains.specs.declared.built.Asks.TheVariants as asks
use Rattle.wf_plan_domains.specs.declared.built.Feature.{Feature}
use Rattle.wf_plan_domains.specs.declared.shape.Shape.{Shape}
use Rattle.wf_plan_domains.specs.declared.nests.NestTest.{NestTest}
use Rattle.wf_plan_domains.specs.declared.nests.NestTest.TheVariants as test

-- ---- what isn't built

abbrev pub asks_of : Asks → Value → Bool
asks_of (asks.Above n) = is_above n
asks_of asks.Set = is_set

abbrev pub unbuilt_of : Feature → Unbuilt
unbuilt_of f = record { name = f.name.now; asks = asks_of f.asks }

-- the first fault of what isn't built
unfoldable pub unbuilt_found : Config → Option PlanFault
unbuilt_found config = first_fault (map (unbuilt_fault config) unbuilt)

-- ---- streams

-- the intervals of a domain's streams, in minutes
unfoldable pub stream_minutes : Config → ℕ → List ℕ
stream_minutes config d = minutes config d

-- the frames of a file, by stream
unfoldable pub stream_frames : Config → ℕ → List ℕ
stream_frames config d = map (λ name. amount config name d) frames_names

-- the first fault of a domain's intervals
unfoldable pub intervals_found : Config → Plan → ℕ → Option PlanFault
intervals_found config plan d = first_fault (interval_faults config plan d)

-- ---- nests

-- the numbers of a domain
abbrev pub shape_of : Domain → Shape
shape_of d = record {
  parent = d.parent;
  i_start = d.i_start;
  j_start = d.j_start;
  ratio = d.ratio;
  time_ratio = d.time_ratio;
  ide = d.ide;
  jde = d.jde;
  kde = d.kde;
  seconds = d.seconds;
  begins = d.begins;
  periodic_x = d.periodic_x;
  periodic_y = d.periodic_y;
}

-- the fault of a nest that a test of this kind finds
abbrev pub nest_fault : NestTest → Plan → ℕ → Option PlanFault
nest_fault test.Parent = parent_fault
nest_fault test.Ratio = ratio_fault
nest_fault test.Size = size_fault
nest_fault test.Edge = edge_fault
nest_fault test.Periodic = periodic_fault
nest_fault test.Step = step_fault
nest_fault test.Start = start_fault

-- of the first nest that has one
abbrev pub nests_fault : NestTest → Plan → Option PlanFault
nests_fault t plan = first_fault (map (nest_fault t plan) (nests_of plan))

-- the first fault of a nest that is judged before the run's length
unfoldable pub nests_found : Plan → Option PlanFault
nests_found plan =
    let nests = nests_of plan in
    first_fault (map (parent_fault plan) nests
    ++ map (ratio_fault plan) nests
    ++ map (size_fault plan) nests
    ++ map (edge_fault plan) nests
    ++ map (periodic_fault plan) nests
    ++ map (step_fault plan) nests)
