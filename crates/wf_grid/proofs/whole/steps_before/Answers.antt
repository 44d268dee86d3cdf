use Rattle.std.proofs.Common.{ap, get_or, List}
use Rattle.wf_model.specs.declared.initial.Begin.{Begin}
use Rattle.wf_model.specs.Plans.{begin_of, no_begin}
use Rattle.wf_grid.proofs.whole.steps_before.Goals as goal

pub returns : goal.returns
unfolding begin_of no_begin
returns c = ap (λ (l : List Begin). (get_or l 0 no_begin).steps) c.as_slice.ensures
