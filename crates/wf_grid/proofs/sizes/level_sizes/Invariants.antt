use Rattle.std.proofs.Common.{◌≡◌, ℕ, ◌<◌, length, get_or}
use Rattle.wf_grid.specs.Sized.{IsSize, no_size}
use Rattle.wf_grid.proofs.sizes.level_sizes.Given as goal

abbrev pub invariant-loop-field : goal.invariant-loop-field
invariant-loop-field l = record {
  room : length l.sizes ≡ 64;
  each : (f : ℕ) → f < l.field → IsSize l.plan l.number f (get_or l.sizes f no_size);
}
