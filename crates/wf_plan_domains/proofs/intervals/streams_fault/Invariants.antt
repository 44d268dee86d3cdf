use Rattle.std.proofs.Common.{◌≡◌}
use Rattle.std.specs.Prelude.{slice_index}
use Rattle.wf_model.specs.PlanTests.{interval_fault}
use Rattle.wf_plan_domains.specs.DomainTests.{stream_minutes}
use Rattle.wf_plan_domains.proofs.FirstFound.{first_from}
use Rattle.wf_plan_domains.proofs.intervals.streams_fault.Given as goal

abbrev pub invariant-loop-stream : goal.invariant-loop-stream
invariant-loop-stream l =
    first_from (λ s. interval_fault l.plan l.domain s (slice_index (stream_minutes l.config l.domain) s)) l.stream 10
    ≡ first_from (λ s. interval_fault l.plan l.domain s (slice_index (stream_minutes l.config l.domain) s)) 0 10
