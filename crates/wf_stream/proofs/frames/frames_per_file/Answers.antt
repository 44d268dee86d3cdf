use Rattle.std.proofs.Common.{arith}
use Rattle.wf_stream.proofs.SoundFrames.{takes_other}
use Rattle.wf_stream.proofs.frames.frames_per_file.Goals as goal

pub returns-clause-value : goal.returns-clause-value
returns-clause-value c =
    takes_other c.args.plan.now c.args.domain c.args.stream c.index-as_slice-domain.result c.as_slice-2.result.now c.if-stream-eq-RESTART_STREAM.false
    (cc) (omega (arith, c.requires.domain)) (cc)
