use Rattle.std.proofs.Common.{◌≡◌, ◌-◌, ◌*◌, ◌≤◌, sum_by}
use Rattle.std.specs.List.{range_with_len}
use Rattle.wf_model.specs.Demo.{demo_frames, frame_sum}
use Rattle.wf_model.specs.StoreRuns.{Ran}
use Rattle.wf_top.specs.Told.{HasHeader}
use Rattle.wf_top.specs.Domains.{IsDomain, SameSize, HoldGrid}
use Rattle.wf_top.proofs.frames.write_frames.Given as goal

abbrev pub invariant-loop-step : goal.invariant-loop-step
invariant-loop-step g l = record {
  ran : Ran (demo_frames l.fn.patches.nx l.fn.patches.ny l.step) (g.S.Store.files l.fn.store) (g.S.Store.files l.store);
  header : HasHeader (g.S.Store.files l.store);
  domain : IsDomain l.patches;
  size : SameSize l.fn.patches l.patches;
  grid : HoldGrid l.step (l.step - 1) l.patches;
  total : l.total ≡ sum_by (frame_sum l.fn.patches.nx l.fn.patches.ny) (range_with_len 0 l.step);
  bound : l.total ≤ 41000000 * l.step;
  faults : g.S.Store.faults l.fn.store ≤ g.S.Store.faults l.store;
}
