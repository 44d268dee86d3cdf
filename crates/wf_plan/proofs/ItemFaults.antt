-- The tests of items are those of reads, and then those of limits.
use Rattle.std.proofs.Common.{◌≡◌, ◌∙◌, sym, ap, List, ℤ, Option, Some, None}
use Rattle.std.specs.Option.{option_or}
use Rattle.wf_model.specs.declared.plan.Plan.{Plan}
use Rattle.wf_model.specs.declared.plan_fault.PlanFault.{PlanFault}
use Rattle.wf_model.specs.Reading.{first_fault}
use Rattle.wf_model.specs.PlanTests.{item_faults, limit_faults, read_faults}
use Rattle.wf_model.proofs.ReadingLemmas.{first_fault-append}

both : (plan : Plan) (zs : List ℤ) → first_fault (item_faults plan zs) ≡ option_or (first_fault (read_faults plan zs)) (first_fault (limit_faults plan zs))
unfolding item_faults
both plan zs = first_fault-append (read_faults plan zs) (limit_faults plan zs)

pub in_reads : (plan : Plan) (zs : List ℤ) (f : PlanFault) → Some f ≡ first_fault (read_faults plan zs) → Some f ≡ first_fault (item_faults plan zs)
in_reads plan zs f is = ap (λ (o : Option PlanFault). option_or o (first_fault (limit_faults plan zs))) is ∙ sym (both plan zs)

pub in_limits : (plan : Plan) (zs : List ℤ) (o : Option PlanFault) → None ≡ first_fault (read_faults plan zs) → o ≡ first_fault (limit_faults plan zs) → o ≡ first_fault (item_faults plan zs)
in_limits plan zs o none is = is ∙ ap (λ (p : Option PlanFault). option_or p (first_fault (limit_faults plan zs))) none ∙ sym (both plan zs)
