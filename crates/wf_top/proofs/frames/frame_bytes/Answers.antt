use Rattle.std.proofs.Common.{ap, ◌∙◌}
use Rattle.wf_model.specs.Bytes.{slab_bytes}
use Rattle.wf_top.proofs.frames.frame_bytes.Goals as goal

pub returns-clause-slab : goal.returns-clause-slab
returns-clause-slab c = c.in_ok-write_slab.ensures.bytes ∙ ap slab_bytes (c.deref.ensures.value ∙ c.in_ok-assemble.ensures c.args.step c.requires.grid.0 c.requires.grid.1)
