use Rattle.std.proofs.Common.{◌≡◌, ℕ, flat_map, map, pos}
use Rattle.std.specs.List.{range_with_len}
use Rattle.wf_model.specs.Plans.{up_to}
use Rattle.wf_model.specs.Demo.{demo_value}
use Rattle.wf_top.specs.Domains.{HoldGrid}
use Rattle.wf_top.proofs.patches.Patches.assemble.Given as goal

abbrev pub invariant-loop-r : goal.invariant-loop-r
invariant-loop-r l = (n m : ℕ) → HoldGrid n m l.self
    → l.values.items ≡ flat_map (λ j. map (λ i. pos (demo_value l.self.nx l.self.ny n j i)) (up_to l.self.nx)) (range_with_len 1 l.r)
