use Rattle.std.proofs.Common.{◌≡◌, ◌^◌, ◌<◌, if◌then◌else◌, sum_by}
use Rattle.std.specs.List.{range_with_len}
use Rattle.wf_model.specs.PlanFields.{has_letter}
use Rattle.wf_plan_fields.proofs.streams.stream_bits.Given as goal

abbrev pub invariant-loop-stream : goal.invariant-loop-stream
invariant-loop-stream l = record {
  sum : l.bits ≡ sum_by (λ s. if has_letter s l.streams then 2 ^ s else 0) (range_with_len 0 l.stream);
  bound : l.bits < 2 ^ l.stream;
}
