-- A patch of a plan within its ranges is laid.
use Rattle.std.proofs.Common.{ℕ, ◌-◌, arith}
use Rattle.wf_model.specs.declared.layout.Layout.{Layout}
use Rattle.wf_model.specs.declared.plan.Plan.{Plan}
use Rattle.wf_model.specs.Plans.{domain_of, no_domain, field_of, no_field}
use Rattle.wf_model.specs.Ranges.{IsRangedDomain, IsRangedField}
use Rattle.wf_model.specs.Sound.{IsDomain, IsLevel, IsSoundLayout, IsRangedPlan}
use Rattle.wf_model.specs.Agreement.{IsPatch}
use Rattle.wf_laws.proofs.Members.{All-In, In-get_or}
use Rattle.wf_boxes.specs.Boxes.{IsLaid}

domain_ranged : (plan : Plan) (d : ℕ) → IsRangedPlan plan → IsDomain plan d → IsRangedDomain (domain_of plan d)
unfolding domain_of
domain_ranged plan d ranged is = All-In IsRangedDomain (domain_of plan d) plan.domains ranged.domains (In-get_or plan.domains (d - 1) no_domain (omega (arith, is.0, is.1)))

field_ranged : (plan : Plan) (f : ℕ) → IsRangedPlan plan → IsLevel plan f → IsRangedField (field_of plan f)
unfolding field_of
field_ranged plan f ranged is = All-In IsRangedField (field_of plan f) plan.fields ranged.fields (In-get_or plan.fields f no_field is)

pub laid_of : (plan : Plan) (layout : Layout) (d p : ℕ) → IsRangedPlan plan → IsSoundLayout plan layout → IsDomain plan d → IsPatch layout p → IsLaid plan layout d p
laid_of plan layout d p ranged laid domain patch =
    let x : IsRangedDomain (domain_of plan d) = domain_ranged plan d ranged domain in
    record {
      laid = laid;
      domain = domain;
      patch = patch;
      columns = (x.ide).1;
      rows = (x.jde).1;
      levels = λ f is. let y : IsRangedField (field_of plan f) = field_ranged plan f ranged is in (y.nz).1;
      margin = (ranged.limits).margin;
    }
