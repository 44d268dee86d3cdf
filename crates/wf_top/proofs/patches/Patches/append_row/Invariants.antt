use Rattle.std.proofs.Common.{◌≡◌, ℕ, ◌+◌, ◌++◌, length, map, pos}
use Rattle.std.specs.List.{range_with_len}
use Rattle.wf_top.specs.Memories.{block_start}
use Rattle.wf_top.specs.Domains.{AllHold}
use Rattle.wf_top.proofs.patches.Patches.append_row.Given as goal

abbrev pub invariant-loop-patch : goal.invariant-loop-patch
invariant-loop-patch l =
    (own west east : ℕ → ℕ → ℕ) → AllHold own west east l.self
    → l.values.items ≡ l.fn.values.items ++ map (λ i. pos (own (l.r + 1) i)) (range_with_len 1 (block_start l.self.nx (length l.self.patches.items) l.patch-index))
