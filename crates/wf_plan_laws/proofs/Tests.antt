-- A plan that is given has passed each group of its tests.
use Rattle.std.proofs.Common.{◌≡◌, ◌++◌, map, Option, Some, None, Ok, refl, subst}
use Rattle.wf_model.specs.declared.config.Config.{Config}
use Rattle.wf_model.specs.declared.plan.Plan.{Plan}
use Rattle.wf_model.specs.Reading.{first_fault, unless_fault}
use Rattle.wf_model.specs.PlanFields.{z_extents}
use Rattle.wf_model.specs.PlanOf.{plan_from, plan_of}
use Rattle.wf_model.specs.PlanTests.{unbuilt_fault, unbuilt, domain_faults, read_faults, limit_faults, item_faults, plan_faults}
use Rattle.wf_plan_laws.specs.TestLaws.{PassesTests, PlansPassTheirTests}
use Rattle.wf_plan_laws.proofs.Passed.{both_pass}

given : {A F : Type 0} (fault : Option F) (a b : A) → unless_fault fault a ≡ Ok b → (fault ≡ None) × (a ≡ b)
given None a b e = (refl, cc)
given (Some f) a b e = cc

passes_tests : (config : Config) (plan : Plan) → first_fault (plan_faults config plan) ≡ None → PassesTests config plan
unfolding plan_faults item_faults
passes_tests config plan e =
    let zs = z_extents config in
    let one = both_pass (map (unbuilt_fault config) unbuilt) (domain_faults config plan ++ (read_faults plan zs ++ limit_faults plan zs)) e in
    let two = both_pass (domain_faults config plan) (read_faults plan zs ++ limit_faults plan zs) one.1 in
    let three = both_pass (read_faults plan zs) (limit_faults plan zs) two.1 in
    record { built = one.0; domains = two.0; reads = three.0; limits = three.1 }

pub plans_pass_their_tests : PlansPassTheirTests
unfolding plan_of
plans_pass_their_tests config hooks items plan e =
    let is = given (first_fault (plan_faults config (plan_from config hooks items))) (plan_from config hooks items) plan e in
    (is.1, passes_tests config plan (subst (λ (p : Plan). first_fault (plan_faults config p) ≡ None) is.1 is.0))
