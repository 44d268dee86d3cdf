use Rattle.std.proofs.Common.{refl}
use Rattle.wf_grid.specs.Sized.{no_size}
use Rattle.wf_grid.proofs.sizes.no_size.Goals as goal

pub returns : goal.returns
unfolding no_size
returns c = refl
