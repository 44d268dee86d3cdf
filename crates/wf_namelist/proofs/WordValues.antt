-- The values of a bare word with a `*`.
use Rattle.std.proofs.Common.{◌≡◌, ℕ, ◌+◌, ◌<◌, Bool, true, false, cond, [], ◌∷◌, length, take, drop, Some, None, position, refl, sym, ap, ◌∙◌, length-take, arith}
use Rattle.std.specs.Prelude.{not}
use Rattle.std.specs.Bool.{then_some}
use Rattle.std.specs.List.{before_first, after_first, position_or_len}
use Rattle.std.proofs.lemmas.Bool.{lt-ltb}
use Rattle.wf_model.specs.Letters.{Text, digits_value, is_number_within}
use Rattle.wf_model.specs.Namelist.{Tokens, is_star, parted, refuse, repeated, rest, word_value, word_values}
use Rattle.wf_model.specs.Reading.{◌>>=◌}
use Rattle.wf_model.specs.declared.namelist.NamelistKind.TheVariants.{BadValue}
use Rattle.wf_model.specs.ValueForms.{has}
use Rattle.wf_model.proofs.FirstPlaces.{found}

-- a number that is there
known : (b : Bool) (n k : ℕ) → then_some b n ≡ Some k → (b ≡ true) × (n ≡ k)
known true n k is = (refl, cc)
known false n k is = absurd cc

-- no number is there
unknown : (b : Bool) (n : ℕ) → then_some b n ≡ None → b ≡ false
unknown true n is = absurd cc
unknown false n is = refl

-- a `*` stands in the word
has_star : (w : Text) (star : ℕ) → position_or_len is_star w ≡ star → star < length w → has is_star w ≡ true
has_star w star is lt =
    let front : length (take (position_or_len is_star w) w) < length w = omega (arith, length-take (position_or_len is_star w) w) in
    lt-ltb _ _ front

-- the values behind `r*`
pub repeated_word : (w digits value : Text) (from : Tokens) (star count : ℕ) → position is_star w ≡ Some star → digits ≡ take star w → value ≡ drop (star + 1) w
    → then_some (is_number_within 1 21 digits) (digits_value digits) ≡ Some count
    → word_values w from ≡ repeated count value from
repeated_word w digits value from star count is front back counted =
    let place = found is_star w star is in
    let before : before_first is_star w ≡ digits = ap (λ k. take k w) place.0 ∙ sym front in
    let behind : after_first is_star w ≡ value = ap (λ k. drop (k + 1) w) place.0 ∙ sym back in
    let number = known (is_number_within 1 21 digits) (digits_value digits) count counted in
    by (has is_star w) (before_first is_star w) (after_first is_star w) digits value from count (has_star w star place.0 place.1) before behind number.0 number.1
  where
    by : (b : Bool) (d e digits value : Text) (from : Tokens) (count : ℕ) → b ≡ true → d ≡ digits → e ≡ value → is_number_within 1 21 digits ≡ true → digits_value digits ≡ count
        → cond (not b) (word_value w from >>= λ v. parted (v ∷ []) from (rest from)) (cond (is_number_within 1 21 d) (repeated (digits_value d) e from) (refuse from BadValue)) ≡ repeated count value from
    by b d e digits value from count is_there de ee within number = rw (is_there, de, ee, within, number) refl

-- no number, or one that is not allowed, stands before the `*`
pub unrepeated_word : (w digits : Text) (from : Tokens) (star : ℕ) → position is_star w ≡ Some star → digits ≡ take star w
    → then_some (is_number_within 1 21 digits) (digits_value digits) ≡ None
    → word_values w from ≡ refuse from BadValue
unrepeated_word w digits from star is front counted =
    let place = found is_star w star is in
    let before : before_first is_star w ≡ digits = ap (λ k. take k w) place.0 ∙ sym front in
    by (has is_star w) (before_first is_star w) digits from (has_star w star place.0 place.1) before (unknown (is_number_within 1 21 digits) (digits_value digits) counted)
  where
    by : (b : Bool) (d digits : Text) (from : Tokens) → b ≡ true → d ≡ digits → is_number_within 1 21 digits ≡ false
        → cond (not b) (word_value w from >>= λ v. parted (v ∷ []) from (rest from)) (cond (is_number_within 1 21 d) (repeated (digits_value d) (after_first is_star w) from) (refuse from BadValue)) ≡ refuse from BadValue
    by b d digits from is_there de within = rw (is_there, de, within) refl
