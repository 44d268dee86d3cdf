use Rattle.wf_top.proofs.FrameLaws.{time_is}
use Rattle.wf_top.proofs.frames.time_text.Goals as goal

pub returns : goal.returns
returns c = time_is c.args.step c.requires
