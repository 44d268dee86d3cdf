-- A number of digits that passes a limit before its last digit.
use Rattle.std.proofs.Common.{◌≡◌, ℕ, ◌+◌, ◌*◌, ◌-◌, ◌<◌, ◌≤◌, List, [], ◌∷◌, length, take, drop, get_or, take-append-drop, None, nat_le, Bool, true, false, refl, sym, ap, ◌∙◌, arith}
use Rattle.std.proofs.lemmas.Option.{none-some}
use Rattle.std.specs.List.{fold}
use Rattle.std.specs.Bool.{then_some}
use Rattle.std.proofs.lemmas.List.Sums.{fold-append, fold_more}
use Rattle.std.proofs.lemmas.Bool.{leb-false, lt-leb}
use Rattle.wf_model.specs.Letters.{digits_value}

abbrev one_more : ℕ → ℕ → ℕ
one_more n b = n * 10 + (b - 48)

-- a number does not fall by more digits
grows : (n : ℕ) (bs : List ℕ) → n ≤ fold one_more n bs
grows n [] = omega arith
grows n (b ∷ bs) = let more = grows (one_more n b) bs in omega (arith, more)

-- a test that gives nothing has failed
failed : {A : Type 0} (test : Bool) (x : A) → None ≡ then_some test x → test ≡ false
failed true x none = absurd (none-some x none)
failed false x none = refl

-- where the number of the first digits is above the limit, so is the number of all
above : (digits : List ℕ) (k most : ℕ) → k < length digits → most < one_more (digits_value (take k digits)) (get_or digits k 0) → most < digits_value digits
above digits k most within high =
    let split : digits_value digits ≡ fold one_more (digits_value (take (k + 1) digits)) (drop (k + 1) digits) = ap digits_value (sym (take-append-drop (k + 1) digits)) ∙ fold-append one_more 0 (take (k + 1) digits) (drop (k + 1) digits) in
    let here : digits_value (take (k + 1) digits) ≡ one_more (digits_value (take k digits)) (get_or digits k 0) = fold_more one_more 0 digits k 0 within in
    let up = grows (digits_value (take (k + 1) digits)) (drop (k + 1) digits) in
    omega (arith, split, here, up, high)

-- one digit more passes the limit: all digits do
pub past : (digits : List ℕ) (k most value : ℕ) → k < length digits → value ≡ digits_value (take k digits)
    → None ≡ then_some (nat_le (one_more value (get_or digits k 0)) most) (one_more value (get_or digits k 0))
    → None ≡ then_some (nat_le (digits_value digits) most) (digits_value digits)
past digits k most value within read none =
    let high = leb-false (one_more value (get_or digits k 0)) most (failed (nat_le (one_more value (get_or digits k 0)) most) (one_more value (get_or digits k 0)) none) in
    rw (lt-leb (digits_value digits) most (above digits k most within (rw (← read) high))) refl
