use Rattle.std.proofs.Common.{◌-◌, ap, ◌∙◌, get_or, List}
use Rattle.wf_model.specs.declared.initial.Begin.{Begin}
use Rattle.wf_model.specs.Plans.{begin_of, no_begin}
use Rattle.wf_model.proofs.run.Run.begin.Goals as goal

pub returns : goal.returns
unfolding begin_of no_begin
returns g c = ap (λ (l : List Begin). get_or l (c.args.domain - 1) no_begin) (c.as_slice.ensures ∙ c.args.self.now.begins_are)
