-- Words in lower case.
use Rattle.std.proofs.Common.{◌≡◌, ℕ, Bool, ◌&&◌, List, [], ◌∷◌, refl, ap₂, arith}
use Rattle.std.specs.Prelude.{nat_lt, nat_le}
use Rattle.std.specs.List.{list_all}
use Rattle.std.specs.Char.{to_ascii_lowercase, is_ascii_digit}
use Rattle.std.proofs.lemmas.Bool.Decides.{nat_tests}
use Rattle.std.proofs.lemmas.List.{length-map}
use Rattle.wf_model.specs.Letters.{lower, is_digits, is_name, is_name_byte}

-- a letter's case is no matter to a test
alike : (p : ℕ → Bool) → ((b : ℕ) → p (to_ascii_lowercase b) ≡ p b) → (word : List ℕ) → list_all p (lower word) ≡ list_all p word
alike p same [] = refl
alike p same (b ∷ bs) = ap₂ ◌&&◌ (same b) (alike p same bs)

lower_digit : (b : ℕ) → is_ascii_digit (to_ascii_lowercase b) ≡ is_ascii_digit b
lower_digit b = grind (arith, nat_tests)

lower_name_byte : (b : ℕ) → is_name_byte (to_ascii_lowercase b) ≡ is_name_byte b
lower_name_byte b = grind (arith, nat_tests)

-- digits have one case
pub is_digits_lower : (word : List ℕ) → is_digits (lower word) ≡ is_digits word
is_digits_lower word = ap₂ (λ n b. nat_lt 0 n && b) (length-map word to_ascii_lowercase) (alike is_ascii_digit lower_digit word)

-- a name in lower case is a name
pub is_name_lower : (word : List ℕ) → is_name (lower word) ≡ is_name word
is_name_lower word =
    ap₂ (λ n b. nat_lt 0 n && nat_le n 64 && b) (length-map word to_ascii_lowercase) (alike is_name_byte lower_name_byte word)
