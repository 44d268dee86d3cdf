use Rattle.wf_model.specs.Plans.{begin_of, no_begin}
use Rattle.std.proofs.Common.{refl}
use Rattle.wf_model.proofs.script_list.ScriptSource.begin.Goals as goal

pub returns : goal.returns
unfolding begin_of no_begin
returns c = refl
