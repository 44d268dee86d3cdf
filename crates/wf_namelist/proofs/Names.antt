-- Names in lower case.
use Rattle.std.proofs.Common.{◌≡◌, ℕ, suc, [], ◌∷◌, length, refl, ap, arith}
use Rattle.std.specs.List.{list_all}
use Rattle.std.specs.Char.{to_ascii_lowercase}
use Rattle.std.proofs.lemmas.Bool.Decides.{nat_tests}
use Rattle.wf_model.specs.Letters.{Text, lower, is_name, is_name_byte}

-- a letter's lower case is one
byte : (b : ℕ) → is_name_byte (to_ascii_lowercase b) ≡ is_name_byte b
byte b = grind (arith, nat_tests)

bytes : (w : Text) → list_all is_name_byte (lower w) ≡ list_all is_name_byte w
bytes [] = refl
bytes (b ∷ bs) = rw (byte b, bytes bs) refl

same_length : (w : Text) → length (lower w) ≡ length w
same_length [] = refl
same_length (b ∷ bs) = ap suc (same_length bs)

-- a name in lower case is a name
pub is_name_lower : (w : Text) → is_name (lower w) ≡ is_name w
is_name_lower w = rw (same_length w, bytes w) refl
