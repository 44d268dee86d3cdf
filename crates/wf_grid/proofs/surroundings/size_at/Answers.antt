use Rattle.std.proofs.Common.{arith}
use Rattle.wf_grid.specs.Sized.{no_size}
use Rattle.wf_grid.proofs.surroundings.size_at.Goals as goal

pub bounds-at-field : goal.bounds-at-field
bounds-at-field c = omega (arith, c.requires, c.args.at.now.old.now.sizes_are.room)

pub returns : goal.returns
unfolding no_size
returns c = c.args.at.now.old.now.sizes_are.each c.args.field c.requires
