use Rattle.std.proofs.Common.{◌≡◌, ℕ, ◌<◌, ◌≤◌, ap, subst, sym, ◌∙◌, get_or, length, List, arith}
use Rattle.std.proofs.lemmas.List.{get_or_read}
use Rattle.std.specs.Prelude.{ℤ}
use Rattle.wf_model.specs.Outcome.{no_list, no_lists}
use Rattle.wf_grid.specs.Held.{first_lists}
use Rattle.wf_grid.proofs.Ready.{ready}
use Rattle.wf_grid.proofs.whole.Whole.new.Goals as goal

pub invariant_of-result : goal.invariant_of-result
invariant_of-result c =
    let q = c.requires in
    let levels : c.as_slice-2.result.now ≡ first_lists c.args.initial =
    c.as_slice-2.ensures ∙ get_or_read c.as_slice.result.now 0 c.index-as_slice-0.result (omega (arith, ap length c.as_slice.ensures, q.fitting.shape.domains, q.one_domain)) c.index-as_slice-0.is no_lists
    ∙ ap (λ (l : List (List (List ℤ))). get_or l 0 no_lists) c.as_slice.ensures in
    let long : length c.in_ok-scratch.scratch.items ≡ c.longest-count.result = omega (arith, c.in_ok-scratch.ensures.len) in
    ready c.args.plan c.args.initial q.sound q.ranged q.fitting q.one_domain c.in_ok-scratch.scratch.items
    (λ f h. subst (λ (n : ℕ). length (get_or (first_lists c.args.initial) f no_list) ≤ n) (sym long) (subst (λ (l : List (List ℤ)). f < length l → length (get_or l f no_list) ≤ c.longest-count.result) levels (c.longest-count.ensures f) h))
