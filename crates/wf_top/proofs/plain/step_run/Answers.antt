use Rattle.std.proofs.Common.{sym, subst}
use Rattle.std.specs.List.{All}
use Rattle.wf_model.specs.Sound.{FilesFit}
use Rattle.wf_grid.specs.Held.{Held}
use Rattle.wf_grid.specs.Takeable.{CallsAreAccepted}
use Rattle.wf_grid.proofs.Accepting.{accepted_items}
use Rattle.wf_top.proofs.plain.step_run.Goals as goal

pub step_all-requires-clause-files : goal.step_all-requires-clause-files
step_all-requires-clause-files g c κs l = subst (λ (w : Held). FilesFit w.plan) (sym c.in-Ok.ensures) c.requires.ready.single.files

pub step_all-requires-clause-calls : goal.step_all-requires-clause-calls
step_all-requires-clause-calls g c κs l =
    subst (λ (w : Held). All (CallsAreAccepted g.M.Meanings.accepts) w.plan.items) (sym c.in-Ok.ensures)
    (accepted_items g.M.Meanings.accepts c.args.hooks.now c.requires.accepted c.args.run.plan.items c.requires.ready.calls)
