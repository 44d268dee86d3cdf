use Rattle.wf_demo_laws.proofs.Words.{words_are}
use Rattle.wf_demo_laws.proofs.words_are_answered_by_the_demo.Goals as goal

pub returns : goal.returns
returns c = words_are
