use Rattle.std.proofs.Common.{ℕ, List, ◌<◌, length, get_or, sym, ap, subst, ◌∙◌}
use Rattle.wf_model.specs.Sizes.{rest_of}
use Rattle.wf_cdf.proofs.Sizes.{All_rest_of}
use Rattle.wf_cdf.proofs.size.slab_dims.Goals as goal

pub returns-then-begins_with_record-clause-within : goal.returns-then-begins_with_record-clause-within
returns-then-begins_with_record-clause-within c =
    let dims = c.args.dims.now in
    let P : List ℕ → Type 0 = λ ns. (k d : ℕ) → k < length ns → get_or ns k d < length dims in
    subst P (sym (c.all_but_first.ensures ∙ ap rest_of c.as_slice-numbers.ensures)) (All_rest_of (λ n. n < length dims) c.args.var.now.dims c.requires)
