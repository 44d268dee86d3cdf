use Rattle.wf_laws.proofs.Growth.{fresh_whole}
use Rattle.wf_laws.proofs.halo_rule.fresh_for_the_part_is_fresh_for_the_whole.Goals as goal

pub returns : goal.returns
returns c = fresh_whole
