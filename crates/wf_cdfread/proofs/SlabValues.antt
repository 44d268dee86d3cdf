-- Lengths compared one by one, and numbers read one by one.
use Rattle.std.proofs.Common.{◌≡◌, ◌≢◌, ℕ, ◌*◌, ◌<◌, ◌≤◌, Bool, true, false, List, [], ◌∷◌, length, map, take, drop, get_or, refl, sym, ap, ◌∙◌, zero-add, arith}
use Rattle.std.specs.Prelude.{ℤ, pos}
use Rattle.std.specs.Int.{cast_signed, w32}
use Rattle.std.specs.Str.{bytes_eq}
use Rattle.std.specs.Slice.Scan.{big_endian}
use Rattle.std.proofs.lemmas.Slice.Eq.{bytes_eq-Decides}
use Rattle.std.proofs.lemmas.List.{ext_get_or, get_or-map, length-map, length-drop}
use Rattle.std.proofs.lemmas.List.FromFn.{get_or-map-range_with_len, length-map-range_with_len}
use Rattle.byteorder.specs.Endian.{big_number, IsReadBy}
use Rattle.wf_model.specs.CdfRead.{ints}

-- lists that a function makes equal at each place
pub same_lengths : (f : ℕ → ℕ) (ns ws : List ℕ) → length ns ≡ length ws → ((k : ℕ) → k < length ws → f (get_or ns k 0) ≡ get_or ws k 0) →
    true ≡ bytes_eq (map f ns) ws
same_lengths f ns ws len each =
    let same : map f ns ≡ ws = ext_get_or 0 (map f ns) ws (length-map ns f ∙ len)
    (λ k h. let lt : k < length ns = omega (arith, length-map ns f) in get_or-map f ns k 0 0 lt ∙ each k (omega arith)) in
    sym ((bytes_eq-Decides (map f ns) ws).1 same)

differ : (f : ℕ → ℕ) (ns ws : List ℕ) (k : ℕ) (b : Bool) → bytes_eq (map f ns) ws ≡ b → length ns ≡ length ws → k < length ws →
    f (get_or ns k 0) ≢ get_or ws k 0 → false ≡ b
differ f ns ws k false e len lt other = refl
differ f ns ws k true e len lt other =
    let same : map f ns ≡ ws = (bytes_eq-Decides (map f ns) ws).0 e in
    absurd (other (sym (get_or-map f ns k 0 0 (omega arith)) ∙ ap (λ xs. get_or xs k 0) same))

-- lists that it makes different at one
pub other_lengths : (f : ℕ → ℕ) (ns ws : List ℕ) (k : ℕ) → length ns ≡ length ws → k < length ws → f (get_or ns k 0) ≢ get_or ws k 0 →
    false ≡ bytes_eq (map f ns) ws
other_lengths f ns ws k len lt other = differ f ns ws k (bytes_eq (map f ns) ws) refl len lt other

-- lists of other lengths
pub other_count : (f : ℕ → ℕ) (ns ws : List ℕ) (b : Bool) → bytes_eq (map f ns) ws ≡ b → length ns ≢ length ws → false ≡ b
other_count f ns ws false e other = refl
other_count f ns ws true e other = absurd (other (sym (length-map ns f) ∙ ap length ((bytes_eq-Decides (map f ns) ws).0 e)))

-- the first four bytes as a number, told in both ways
number_of_four : (bytes : List ℕ) → 4 ≤ length bytes → big_number 4 bytes ≡ big_endian 0 (take 4 bytes)
number_of_four [] h = absurd (omega arith)
number_of_four (a ∷ []) h = absurd (omega arith)
number_of_four (a ∷ b ∷ []) h = absurd (omega arith)
number_of_four (a ∷ b ∷ c ∷ []) h = absurd (omega arith)
number_of_four (a ∷ b ∷ c ∷ d ∷ rest) h = omega arith

-- numbers that were read one by one are those of the bytes
pub ints_read : (bytes : List ℕ) (values : List ℤ) → length bytes ≡ 4 * length values → IsReadBy (λ ys. cast_signed w32 (big_number 4 ys)) 4 bytes values →
    values ≡ ints (length values) bytes
ints_read bytes values len read =
    ext_get_or (pos 0) values (ints (length values) bytes) (sym (length-map-range_with_len (λ m. cast_signed w32 (big_endian 0 (take 4 (drop (4 * m) bytes)))) 0 (length values)))
    (λ k h. read (pos 0) k h
    ∙ ap (cast_signed w32) (number_of_four (drop (4 * k) bytes) (omega (arith, length-drop (4 * k) bytes)))
    ∙ sym (get_or-map-range_with_len (λ m. cast_signed w32 (big_endian 0 (take 4 (drop (4 * m) bytes)))) 0 (length values) k k (pos 0) h (zero-add k)))
