use Rattle.std.proofs.Common.{◌≡◌, ◌-◌, ◌==◌, ◌||◌, Bool, false, List, get_or, sym, ap, ◌∙◌, arith}
use Rattle.wf_model.specs.declared.initial.Begin.{Begin}
use Rattle.wf_model.specs.Plans.{begin_of, no_begin}
use Rattle.wf_field.proofs.making.has_numbers.Goals as goal

pub returns-else-domain-eq1 : goal.returns-else-domain-eq1
unfolding begin_of no_begin
returns-else-domain-eq1 c =
    let other : (c.args.domain == 1) ≡ false = grind arith in
    ap (λ (l : List Begin). (get_or l (c.args.domain - 1) no_begin).resumed) c.as_slice.ensures
    ∙ sym (ap (λ (b : Bool). b || (begin_of c.args.initial.now.begins c.args.domain).resumed) other)
