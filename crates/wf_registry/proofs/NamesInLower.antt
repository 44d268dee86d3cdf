-- A name in lower case is a name.
use Rattle.std.proofs.Common.{◌≡◌, ap₂, refl, ℕ, [], ◌∷◌, arith}
use Rattle.std.specs.Prelude.{◌&&◌, nat_lt, nat_le, IsTrue}
use Rattle.std.specs.List.{list_all}
use Rattle.std.specs.Char.{to_ascii_lowercase}
use Rattle.std.proofs.lemmas.List.{length-map}
use Rattle.std.proofs.lemmas.Bool.Decides.{nat_tests}
use Rattle.wf_model.specs.Letters.{Text, lower, is_name, is_name_byte}

byte_in_lower : (b : ℕ) → is_name_byte (to_ascii_lowercase b) ≡ is_name_byte b
byte_in_lower b = grind (arith, nat_tests)

bytes_in_lower : (w : Text) → list_all is_name_byte (lower w) ≡ list_all is_name_byte w
bytes_in_lower [] = refl
bytes_in_lower (b ∷ bs) = ap₂ (λ s t. s && t) (byte_in_lower b) (bytes_in_lower bs)

pub is_name-lower : (w : Text) → is_name (lower w) ≡ is_name w
is_name-lower w = ap₂ (λ n t. nat_lt 0 n && nat_le n 64 && t) (length-map w to_ascii_lowercase) (bytes_in_lower w)

pub name_in_lower : (w : Text) → IsTrue (is_name w) → IsTrue (is_name (lower w))
name_in_lower w h = rw (is_name-lower w) h
