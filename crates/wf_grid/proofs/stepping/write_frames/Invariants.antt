use Rattle.std.proofs.Common.{◌≡◌, ◌-◌, ◌≤◌, length, None}
use Rattle.wf_model.specs.Frames.{frames_of}
use Rattle.wf_grid.specs.Takeable.{HasRoom}
use Rattle.wf_grid.proofs.Turns.{Going}
use Rattle.wf_grid.proofs.stepping.write_frames.Given as goal

abbrev pub invariant-loop-next : goal.invariant-loop-next
invariant-loop-next g l = record {
  going : Going g.N.RunName.run l.frames l.place l.levels (g.S.Store.files l.fn.store) (g.S.Store.files l.store);
  written : l.writer ≡ record { number = l.frames; failed = None };
  later : g.S.Store.faults l.fn.store ≤ g.S.Store.faults l.store;
  room : HasRoom g.N.RunName.run.plan 1 l.scratch;
}

abbrev pub decreases-loop-next : goal.decreases-loop-next
decreases-loop-next g l = length (frames_of g.N.RunName.run) - l.frames
