use Rattle.std.proofs.Common.{ℕ, List, ◌<◌, length, get_or, sym, subst}
use Rattle.wf_cdf.proofs.Sizes.{All_rest_of}
use Rattle.wf_cdf.proofs.sound.has_record_first.Goals as goal

pub are_fixed-requires : goal.are_fixed-requires
are_fixed-requires c =
    let dims = c.args.dims.now in
    let P : List ℕ → Type 0 = λ ns. (k d : ℕ) → k < length ns → get_or ns k d < length dims in
    subst P (sym c.all_but_first.ensures) (All_rest_of (λ n. n < length dims) c.args.numbers.now c.requires)
