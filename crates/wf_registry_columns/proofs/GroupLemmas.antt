-- Parts of a word between separators, and the faults in them.
use Rattle.std.proofs.Common.{◌≡◌, ◌∙◌, sym, ap, ap₂, refl, ℕ, suc, ◌+◌, ◌<◌, Bool, true, false, cond, [], ◌∷◌, take, drop, length, Option, Some, None, position, arith}
use Rattle.std.specs.Prelude.{not, flat_map, nat_lt}
use Rattle.std.specs.List.{position_or_len, slice_split, onto_first}
use Rattle.std.proofs.lemmas.List.Splits.{slice_split_first, slice_split-cons_no}
use Rattle.std.proofs.lemmas.Bool.Decides.{nat_tests}
use Rattle.wf_model.proofs.FirstPlaces.{found, not_found}
use Rattle.wf_model.specs.declared.registry.RegistryKind.{RegistryKind}
use Rattle.wf_model.specs.Letters.{Text}
use Rattle.wf_model.specs.Reading.{first_fault}
use Rattle.wf_model.specs.Groups.{Faults, radius_of}
use Rattle.wf_model.proofs.ReadingLemmas.{first_fault-append}
use Rattle.wf_registry_columns.specs.Heads.{parts_left}

split_none : (p : ℕ → Bool) (xs : Text) → position_or_len p xs ≡ length xs → slice_split p xs ≡ xs ∷ []
split_none p [] e = refl
split_none p (x ∷ xs) e = by (p x) refl (split_none p xs)
  where
    by : (t : Bool) → p x ≡ t → (position_or_len p xs ≡ length xs → slice_split p xs ≡ xs ∷ []) → slice_split p (x ∷ xs) ≡ (x ∷ xs) ∷ []
    by true h rest = let z : 0 ≡ suc (length xs) = sym (ap (λ b. cond (not b) (1 + position_or_len p xs) 0) h) ∙ e in absurd (omega arith)
    by false h rest =
        let n : 1 + position_or_len p xs ≡ suc (length xs) = sym (ap (λ b. cond (not b) (1 + position_or_len p xs) 0) h) ∙ e in
        let m : position_or_len p xs ≡ length xs = omega arith in
        slice_split-cons_no p x xs h ∙ ap (onto_first x) (rest m)

-- what is cut at the first separator
pub cut_at : (p : ℕ → Bool) (xs front rest : Text) (at : ℕ) → position p xs ≡ Some at → front ≡ take at xs → rest ≡ drop (at + 1) xs
    → slice_split p xs ≡ front ∷ parts_left p (Some rest)
cut_at p xs front rest at is ahead behind =
    let f = found p xs at is in
    let here : position_or_len p xs < length xs = omega arith in
    slice_split_first p xs 0 here
    ∙ ap₂ (λ (a b : Text). a ∷ slice_split p b) (ap (λ k. take k xs) f.0 ∙ sym ahead) (ap (λ k. drop (k + 1) xs) f.0 ∙ sym behind)

pub cut_none : (p : ℕ → Bool) (xs : Text) → position p xs ≡ None → slice_split p xs ≡ xs ∷ parts_left p None
cut_none p xs is = split_none p xs (not_found p xs is)

-- ---- faults, part by part

pub part_passed : (faults : Text → Faults) (p : ℕ → Bool) (bytes part : Text) (rest : Option Text) (whole : Option RegistryKind) → slice_split p bytes ≡ part ∷ parts_left p rest → first_fault (faults part) ≡ None
    → first_fault (flat_map faults (slice_split p bytes)) ≡ whole → first_fault (flat_map faults (parts_left p rest)) ≡ whole
part_passed faults p bytes part rest whole cut passed so_far =
    ap (λ (f : Option RegistryKind). Rattle.std.specs.Option.option_or f (first_fault (flat_map faults (parts_left p rest)))) (sym passed)
    ∙ sym (first_fault-append (faults part) (flat_map faults (parts_left p rest)))
    ∙ ap (λ ps. first_fault (flat_map faults ps)) (sym cut) ∙ so_far

pub part_wrong : (faults : Text → Faults) (p : ℕ → Bool) (bytes part : Text) (rest : Option Text) (whole : Option RegistryKind) (k : RegistryKind) → slice_split p bytes ≡ part ∷ parts_left p rest → first_fault (faults part) ≡ Some k
    → first_fault (flat_map faults (slice_split p bytes)) ≡ whole → whole ≡ Some k
part_wrong faults p bytes part rest whole k cut wrong so_far =
    sym so_far ∙ ap (λ ps. first_fault (flat_map faults ps)) cut
    ∙ first_fault-append (faults part) (flat_map faults (parts_left p rest))
    ∙ ap (λ (f : Option RegistryKind). Rattle.std.specs.Option.option_or f (first_fault (flat_map faults (parts_left p rest)))) wrong

-- ---- points of a halo

pub no_radius : (n : ℕ) → 168 < n → nat_lt 0 (radius_of n) ≡ false
no_radius n big = grind (arith, nat_tests)
