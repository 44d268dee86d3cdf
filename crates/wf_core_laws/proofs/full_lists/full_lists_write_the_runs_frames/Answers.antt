use Rattle.wf_core_laws.proofs.RunFrames.{full_lists_write_the_runs_frames}
use Rattle.wf_core_laws.proofs.full_lists.full_lists_write_the_runs_frames.Goals as goal

pub returns : goal.returns
returns c = full_lists_write_the_runs_frames
