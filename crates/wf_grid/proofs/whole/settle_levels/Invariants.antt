use Rattle.std.proofs.Common.{◌≡◌, ◌+◌, ◌-◌}
use Rattle.std.specs.List.{range_with_len}
use Rattle.wf_grid.specs.Levels.{AreLists}
use Rattle.wf_grid.specs.Stepped.{left_by, left_by_step, left_by_steps}
use Rattle.wf_grid.specs.Takeable.{HasRoom}
use Rattle.wf_grid.proofs.whole.settle_levels.Given as goal

abbrev pub invariant-loop-n : goal.invariant-loop-n
invariant-loop-n g l = record {
  are : AreLists l.plan 1 l.levels;
  room : HasRoom l.plan 1 l.scratch;
  rest : left_by (λ n ls. left_by_step l.plan g.M.Meanings.answer 1 (l.before + n + 1) ls) (range_with_len l.n (l.plan.steps - l.n)) l.levels ≡ left_by_steps l.plan g.M.Meanings.answer 1 l.before l.fn.levels;
}
