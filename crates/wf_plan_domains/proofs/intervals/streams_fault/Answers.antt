use Rattle.std.proofs.Common.{◌∙◌, ap, sym}
use Rattle.std.specs.Prelude.{slice_index}
use Rattle.wf_model.specs.PlanTests.{interval_fault}
use Rattle.wf_plan_domains.specs.DomainTests.{stream_minutes}
use Rattle.wf_plan_domains.proofs.FirstFound.{met, passed}
use Rattle.wf_plan_domains.proofs.intervals.streams_fault.Goals as goal

pub returns-then-is_some : goal.returns-then-is_some
returns-then-is_some c =
    met (λ s. interval_fault c.args.plan.now c.args.domain s (slice_index (stream_minutes c.args.config.now c.args.domain) s)) c.loop-stream.stream 10 c.interval_fault-fault.result _ c.loop-stream-test.true
    (c.interval_fault-fault.ensures ∙ ap (interval_fault c.args.plan.now c.args.domain c.loop-stream.stream) c.in_ok-minutes.ensures) (sym c.if-is_some.ensures) c.loop-stream.invariant

pub loop-stream-preserved : goal.loop-stream-preserved
loop-stream-preserved c =
    passed (λ s. interval_fault c.args.plan.now c.args.domain s (slice_index (stream_minutes c.args.config.now c.args.domain) s)) c.loop-stream.stream 10 c.interval_fault-fault.result _ c.loop-stream-test.true
    (c.interval_fault-fault.ensures ∙ ap (interval_fault c.args.plan.now c.args.domain c.loop-stream.stream) c.in_ok-minutes.ensures) (sym c.if-is_some.ensures) c.loop-stream.invariant
