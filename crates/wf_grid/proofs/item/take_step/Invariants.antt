use Rattle.std.proofs.Common.{◌≡◌, ◌-◌, length}
use Rattle.std.specs.List.{range_with_len}
use Rattle.wf_grid.specs.Levels.{AreLists}
use Rattle.wf_grid.specs.Stepped.{left_by, left_by_item, left_by_step}
use Rattle.wf_grid.specs.Takeable.{HasRoom}
use Rattle.wf_grid.proofs.item.take_step.Given as goal

abbrev pub invariant-loop-place : goal.invariant-loop-place
invariant-loop-place g l = record {
  are : AreLists l.plan l.number l.levels;
  room : HasRoom l.plan l.number l.scratch;
  rest : left_by (left_by_item l.plan g.M.Meanings.answer l.number l.step) (range_with_len l.place (length l.plan.items - l.place)) l.levels ≡ left_by_step l.plan g.M.Meanings.answer l.number l.step l.fn.levels;
}
