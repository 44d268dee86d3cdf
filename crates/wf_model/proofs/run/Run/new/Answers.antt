use Rattle.wf_model.proofs.ScriptLaws.{counted, ends_early}
use Rattle.wf_model.proofs.run.Run.new.Goals as goal

pub invariant_of-source : goal.invariant_of-source
invariant_of-source g c =
    record { counted = counted g.N.RunName.run c.args.plan.now c.args.begins.now c.requires.plan c.requires.begins c.requires.sound }

pub script-requires : goal.script-requires
script-requires g c = ends_early g.N.RunName.run c.args.plan.now c.requires.plan c.requires.sound
