use Rattle.std.proofs.Common.{sym}
use Rattle.wf_config_laws.proofs.Layouts.{layouts_ranged}
use Rattle.wf_layout.proofs.Answered.{refused, given}
use Rattle.wf_layout.proofs.judged.layout.Goals as goal

pub returns-in-Some-clause-layout : goal.returns-in-Some-clause-layout
returns-in-Some-clause-layout c = refused c.args.config.now c.args.plan.now c.args.workers c.layout_from-layout.result c.in-Some.fault c.layout_from-layout.ensures c.in-Some.ensures

pub returns-in-None-clause-layout : goal.returns-in-None-clause-layout
returns-in-None-clause-layout c = given c.args.config.now c.args.plan.now c.args.workers c.layout_from-layout.result c.layout_from-layout.ensures c.in-None.ensures

pub returns-in-None-clause-good : goal.returns-in-None-clause-good
returns-in-None-clause-good c =
    layouts_ranged c.args.config.now c.args.plan.now c.args.workers c.layout_from-layout.result c.requires.values c.requires.sound.some c.requires.workers
    (sym (given c.args.config.now c.args.plan.now c.args.workers c.layout_from-layout.result c.layout_from-layout.ensures c.in-None.ensures))
