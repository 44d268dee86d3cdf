use Rattle.std.proofs.Common.{◌≡◌, ℕ, map, take}
use Rattle.wf_stream.specs.Writing.{label}
use Rattle.wf_grid.proofs.file_shape.slabs_of.Given as goal

abbrev pub invariant-loop-field : goal.invariant-loop-field
invariant-loop-field g l = map label l.slabs.items ≡ map (λ (f : ℕ). (l.frame.number, f)) (take l.field-index l.field-items)
