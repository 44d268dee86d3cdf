use Rattle.std.proofs.lemmas.List.Elements.{All-get_or}
use Rattle.wf_model.specs.Sound.{IsLevel}
use Rattle.wf_cdf.proofs.LevelLoops.{ranged}
use Rattle.wf_cdf.proofs.stream_header.vars_of.Goals as goal

pub level_var-requires : goal.level_var-requires
level_var-requires c =
    let is = All-get_or (IsLevel c.args.plan.now) c.args.levels.now c.loop-level.level-index 0 c.loop-level-test.true c.requires.levels in
    (is, ranged c.args.plan.now _ is c.requires.fields, c.requires.dims)
