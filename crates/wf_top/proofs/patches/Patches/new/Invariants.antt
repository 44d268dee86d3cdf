use Rattle.std.proofs.Common.{◌≡◌, length}
use Rattle.wf_model.specs.Demo.{demo_value}
use Rattle.wf_top.specs.Memories.{Hold, Each, IsPatch}
use Rattle.wf_top.proofs.patches.Patches.new.Given as goal

abbrev pub invariant-loop-p : goal.invariant-loop-p
invariant-loop-p l = record {
  count : length l.patches.items ≡ l.p;
  each : Each (IsPatch l.nx l.ny l.px) l.patches.items;
  holds : Each (λ p patch. Hold (demo_value l.nx l.ny 0) l.ny patch 0 patch.width) l.patches.items;
}
