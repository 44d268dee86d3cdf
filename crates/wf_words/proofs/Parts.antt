-- The first part of a list of parts.
use Rattle.std.proofs.Common.{◌≡◌, ℕ, ◌+◌, ◌<◌, List, [], ◌∷◌, length, take, drop, Some, None, position, false, ap, ◌∙◌, arith}
use Rattle.std.specs.List.{slice_split}
use Rattle.std.proofs.lemmas.List.Elements.{All-from_get_or}
use Rattle.std.proofs.lemmas.List.Sums.{fails_before_first}
use Rattle.std.proofs.lemmas.List.Splits.{slice_split_first, slice_split_none}
use Rattle.wf_model.proofs.FirstPlaces.{found, not_found}
use Rattle.wf_words.specs.Commands.{is_comma}

pub one_part : (list : List ℕ) → position is_comma list ≡ None → slice_split is_comma list ≡ list ∷ []
one_part list is =
    let none = not_found is_comma list is in
    slice_split_none is_comma list (All-from_get_or (λ b. is_comma b ≡ false) list 0 (λ i h. fails_before_first is_comma list i 0 (omega (arith, none, h))))

pub more_parts : (list : List ℕ) (k : ℕ) → position is_comma list ≡ Some k → slice_split is_comma list ≡ take k list ∷ slice_split is_comma (drop (k + 1) list)
more_parts list k is =
    let there = found is_comma list k is in
    slice_split_first is_comma list 0 (omega (arith, there.0, there.1)) ∙ ap (λ n. take n list ∷ slice_split is_comma (drop (n + 1) list)) there.0
