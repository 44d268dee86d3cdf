use Rattle.std.proofs.Common.{◌≡◌, length, map}
use Rattle.wf_model.specs.Io.{io_from}
use Rattle.wf_model.proofs.ReadingLemmas.{with_front}
use Rattle.wf_plan_fields.specs.IoParts.{part_of}
use Rattle.wf_plan_fields.proofs.io.parts_from.Given as goal

abbrev pub invariant-loop-rest : goal.invariant-loop-rest
invariant-loop-rest l = with_front (map part_of l.parts.items) (io_from 0 l.rest) ≡ io_from 0 l.fn.word

abbrev pub decreases-loop-rest : goal.decreases-loop-rest
decreases-loop-rest l = length l.rest
