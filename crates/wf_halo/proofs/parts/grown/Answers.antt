use Rattle.std.proofs.Common.{arith}
use Rattle.std.proofs.lemmas.Int.{ints}
use Rattle.wf_halo.proofs.Tests.{same_box}
use Rattle.wf_halo.proofs.parts.grown.Goals as goal

pub returns : goal.returns
returns c = same_box (omega (arith, ints)) (omega (arith, ints)) (omega (arith, ints)) (omega (arith, ints))
