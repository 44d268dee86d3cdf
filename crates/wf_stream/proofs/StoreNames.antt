-- Names that a store takes are texts.
use Rattle.std.proofs.Common.{◌≡◌, refl, ℕ, zero, suc, ◌<◌, Bool, true, false, ◌&&◌, List, [], ◌∷◌, arith}
use Rattle.std.specs.List.{list_all}
use Rattle.std.specs.Str.{IsUtf8, IsAscii}
use Rattle.std.proofs.lemmas.Str.{IsUtf8-from_ascii}
use Rattle.std.proofs.lemmas.Bool.Decides.{nat_tests}
use Rattle.wf_io.specs.Files.{is_store_name}
use Rattle.wf_stream.specs.StoreWrites.{is_store_byte}

byte_small : (b : ℕ) → is_store_byte b ≡ true → b < 128
byte_small b is = grind (arith, nat_tests)

both_left : (a b : Bool) → (a && b) ≡ true → a ≡ true
both_left true b e = refl
both_left false b e = cc

-- of two tests that pass, the second
pub both_right : (a b : Bool) → (a && b) ≡ true → b ≡ true
both_right true b e = e
both_right false b e = cc

bytes_small : (word : List ℕ) → list_all is_store_byte word ≡ true → IsAscii word
bytes_small [] is i = omega arith
bytes_small (b ∷ bs) is zero = byte_small b (both_left (is_store_byte b) (list_all is_store_byte bs) is)
bytes_small (b ∷ bs) is (suc i) = bytes_small bs (both_right (is_store_byte b) (list_all is_store_byte bs) is) i

-- a name that a store takes is a text
pub store_name_text : (word : List ℕ) → is_store_name word ≡ true → IsUtf8 word
store_name_text word is = IsUtf8-from_ascii word (bytes_small word (both_right _ (list_all is_store_byte word) is))
