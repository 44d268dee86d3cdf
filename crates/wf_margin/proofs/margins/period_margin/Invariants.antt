use Rattle.std.proofs.Common.{◌≡◌, map, take}
use Rattle.wf_model.specs.declared.plan.PeriodPart.{PeriodPart}
use Rattle.wf_model.specs.Reads.{greatest}
use Rattle.wf_margin.proofs.margins.period_margin.Given as goal

abbrev pub invariant-loop-part : goal.invariant-loop-part
invariant-loop-part l = l.most ≡ greatest (map (λ (p : PeriodPart). p.width) (take l.part-index l.parts))
