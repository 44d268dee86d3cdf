use Rattle.wf_model.specs.Patches.{whole_domain}
use Rattle.wf_grid.proofs.whole.Whole.step_all.Given as goal

abbrev pub ghosts-run_all : goal.ghosts-run_all
ghosts-run_all g a = record { run = record { plan = a.plan.now; initial = a.initial.now; answers = g.M.Meanings.answer }; layout = whole_domain }
