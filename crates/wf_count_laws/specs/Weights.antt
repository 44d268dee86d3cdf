-- What the script weighs is what its domains weigh, and which plans have their domains in time.
use Rattle.std.specs.Prelude.{◌≡◌, ℕ, ◌-◌, ◌*◌, ◌<◌, ◌≤◌, length}
use Rattle.wf_model.specs.declared.plan.Plan.{Plan}
use Rattle.wf_model.specs.Plans.{domain_of}
use Rattle.wf_model.specs.Counts.{own_steps}
use Rattle.wf_model.specs.Sound.{IsDomain, IsSoundFirst, IsSoundNest, IsTimedNest, IsSoundPlan}
use Rattle.wf_model.specs.Sound.{IsRangedPlan}
use Rattle.wf_model.specs.Weights.{Weights, script_weight, weight_by_domains, begins_at}
use Rattle.wf_model.specs.Weights.{run_seconds, parent_steps, HasDomainsInTime}

-- the script weighs what its domains weigh
abbrev pub ScriptsWeighByDomains : Type 0
ScriptsWeighByDomains =
    (plan : Plan) (w : Weights) → HasDomainsInTime plan →
    script_weight plan w ≡ weight_by_domains plan w

-- a plan whose domains and nests passed their tests has them in time, whatever its limits
abbrev pub TestedPlansAreInTime : Type 0
TestedPlansAreInTime =
    (plan : Plan) → 1 ≤ length plan.domains → IsSoundFirst (domain_of plan 1) →
    ((d : ℕ) → IsDomain plan d → 1 ≤ (domain_of plan d).seconds) →
    ((c : ℕ) → 1 < c → IsDomain plan c → IsSoundNest plan c) →
    ((c : ℕ) → 1 < c → IsDomain plan c → IsTimedNest plan c) → HasDomainsInTime plan

-- so has one that was accepted
abbrev pub SoundPlansAreInTime : Type 0
SoundPlansAreInTime = (plan : Plan) → IsSoundPlan plan → IsRangedPlan plan → HasDomainsInTime plan

-- the steps of a domain fill the run from its begin to its end
abbrev pub StepsFillTheRun : Type 0
StepsFillTheRun =
    (plan : Plan) (d : ℕ) → HasDomainsInTime plan → IsDomain plan d →
    own_steps plan d * (domain_of plan d).seconds ≡ run_seconds plan - begins_at plan d

-- and those of a nest fill the steps of its parent from then on
abbrev pub NestsStepWithTheirParents : Type 0
NestsStepWithTheirParents =
    (plan : Plan) (c : ℕ) → HasDomainsInTime plan → 1 < c → IsDomain plan c →
    own_steps plan c ≡ parent_steps plan c * (domain_of plan c).time_ratio
