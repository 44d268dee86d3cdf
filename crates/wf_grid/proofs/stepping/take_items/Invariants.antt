use Rattle.wf_grid.specs.Reached.{IsReached}
use Rattle.wf_grid.specs.Takeable.{HasRoom}
use Rattle.std.proofs.Common.{◌≡◌, length}
use Rattle.wf_grid.proofs.stepping.take_items.Given as goal

abbrev pub invariant-loop-place : goal.invariant-loop-place
invariant-loop-place g l = record {
  reached : IsReached g.N.RunName.run l.place l.levels;
  room : HasRoom g.N.RunName.run.plan 1 l.scratch;
  length_is : length l.scratch ≡ length l.fn.scratch;
}
