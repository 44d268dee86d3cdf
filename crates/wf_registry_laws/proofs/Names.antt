-- Names in lower case, and names with a suffix.
use Rattle.std.proofs.Common.{◌≡◌, ℕ, suc, ◌+◌, ◌<◌, ◌≤◌, true, [], ◌∷◌, ◌++◌, length, refl, ap, ◌∙◌, length-append, arith}
use Rattle.std.specs.Prelude.{◌&&◌, nat_lt, nat_le}
use Rattle.std.specs.List.{list_all}
use Rattle.std.specs.Char.{to_ascii_lowercase}
use Rattle.std.proofs.lemmas.Bool.{and_parts, and_from, lt-ltb, le-leb, ltb-true}
use Rattle.std.proofs.lemmas.Bool.Decides.{nat_tests}
use Rattle.std.proofs.lemmas.List.Folds.{list_all-append}
use Rattle.wf_model.specs.Letters.{Text, lower, is_name, is_name_byte}

-- a letter's lower case is one
byte : (b : ℕ) → is_name_byte (to_ascii_lowercase b) ≡ is_name_byte b
byte b = grind (arith, nat_tests)

bytes : (w : Text) → list_all is_name_byte (lower w) ≡ list_all is_name_byte w
bytes [] = refl
bytes (b ∷ bs) = rw (byte b, bytes bs) refl

same_length : (w : Text) → length (lower w) ≡ length w
same_length [] = refl
same_length (b ∷ bs) = ap suc (same_length bs)

-- a name in lower case is a name
pub is_name_lower : (w : Text) → is_name w ≡ true → is_name (lower w) ≡ true
is_name_lower w h = rw (same_length w, bytes w) h

-- so is one with more behind it, while it has at most 64 bytes
pub is_name-append : (w more : Text) → is_name w ≡ true → list_all is_name_byte more ≡ true → length w + length more ≤ 64 → is_name (w ++ more) ≡ true
is_name-append w more h good few =
    let first = and_parts (nat_lt 0 (length w) && nat_le (length w) 64) (list_all is_name_byte w) h in
    let second = and_parts (nat_lt 0 (length w)) (nat_le (length w) 64) first.0 in
    let some : 0 < length w = ltb-true 0 (length w) second.0 in
    let all : list_all is_name_byte (w ++ more) ≡ true = list_all-append is_name_byte w more ∙ and_from (list_all is_name_byte w) (list_all is_name_byte more) first.1 good in
    and_from (nat_lt 0 (length (w ++ more)) && nat_le (length (w ++ more)) 64) (list_all is_name_byte (w ++ more))
    (and_from (nat_lt 0 (length (w ++ more))) (nat_le (length (w ++ more)) 64) (lt-ltb 0 (length (w ++ more)) (omega (arith, length-append w more))) (le-leb (length (w ++ more)) 64 (omega (arith, length-append w more)))) all
