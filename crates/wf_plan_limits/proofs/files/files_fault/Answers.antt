use Rattle.std.proofs.Common.{rules, ◌≡◌, ◌+◌, ◌<◌, length, ap, sym, arith}
use Rattle.wf_model.specs.declared.plan.Domain.{Domain}
use Rattle.wf_model.specs.Reading.{first_fault}
use Rattle.wf_plan_limits.specs.LimitParts.{files_of}
use Rattle.wf_plan_limits.proofs.Stages.{met_at, passed_at}
use Rattle.wf_plan_limits.proofs.files.files_fault.Goals as goal

pub returns-then-is_some : goal.returns-then-is_some
returns-then-is_some c =
    let within : c.loop-place.place < length c.args.plan.now.domains = omega (arith, c.loop-place-test.true, ap (length {A = Domain}) c.as_slice-place-end.ensures) in
    let here : c.in_ok-fault.fault ≡ first_fault (files_of c.args.plan.now (c.loop-place.place + 1)) = search rules in
    met_at (files_of c.args.plan.now) c.loop-place.place (length c.args.plan.now.domains) c.in_ok-fault.fault _ within here (sym c.if-is_some.ensures) c.loop-place.invariant

pub loop-place-preserved : goal.loop-place-preserved
loop-place-preserved c =
    let within : c.loop-place.place < length c.args.plan.now.domains = omega (arith, c.loop-place-test.true, ap (length {A = Domain}) c.as_slice-place-end.ensures) in
    let here : c.in_ok-fault.fault ≡ first_fault (files_of c.args.plan.now (c.loop-place.place + 1)) = search rules in
    passed_at (files_of c.args.plan.now) c.loop-place.place (length c.args.plan.now.domains) c.in_ok-fault.fault _ within here (sym c.if-is_some.ensures) c.loop-place.invariant
