use Rattle.std.proofs.Common.{ℕ, ◌<◌, ◌≤◌, length, get_or}
use Rattle.wf_model.specs.Outcome.{no_list}
use Rattle.wf_grid.proofs.whole.longest.Given as goal

abbrev pub invariant-loop-level : goal.invariant-loop-level
invariant-loop-level l = (f : ℕ) → f < l.level-index → length (get_or l.levels f no_list) ≤ l.most
