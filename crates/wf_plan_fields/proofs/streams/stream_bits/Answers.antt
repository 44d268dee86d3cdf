use Rattle.std.proofs.Common.{◌^◌, ◌+◌, ap₂, sym, ◌∙◌, if◌then◌else◌}
use Rattle.wf_model.specs.PlanFields.{has_letter}
use Rattle.wf_plan_fields.proofs.StreamBits.{power_more, sum_more}
use Rattle.wf_plan_fields.proofs.streams.stream_bits.Goals as goal

pub loop-stream-preserved : goal.loop-stream-preserved
loop-stream-preserved c = record {
  sum =
      ap₂ (λ a b. a + b) c.loop-stream.invariant.sum c.bit_of-bits.ensures.value
      ∙ sym (sum_more (λ s. if has_letter s c.args.streams.now then 2 ^ s else 0) c.loop-stream.stream);
  bound = power_more c.loop-stream.bits c.bit_of-bits.result c.loop-stream.stream c.loop-stream.invariant.bound c.bit_of-bits.ensures.bound;
}
