-- Numbers and texts of a record are read again.
use Rattle.std.proofs.Common.{◌≡◌, ℕ, zero, suc, ◌+◌, ◌-◌, ◌*◌, ◌%◌, ◌<◌, ◌≤◌, Bool, true, false, not, cond, List, [], ◌∷◌, ◌++◌, length, take, drop, get_or, replicate, find, All, ℤ, pos, Ok, Err, FitsSigned, refl, sym, ap, ◌∙◌, append_assoc, length-append, eq-eqb, zero-add, arith}
use Rattle.std.specs.Prelude.{◌&&◌}
use Rattle.std.specs.List.{flat_map}
use Rattle.std.specs.Int.{cast_signed, cast_unsigned, w32}
use Rattle.std.specs.Slice.Scan.{big_endian}
use Rattle.std.specs.Str.{bytes_eq}
use Rattle.std.proofs.Math.Dec.{ltb}
use Rattle.std.proofs.lemmas.Bool.{le-ltb, lt-ltb}
use Rattle.std.proofs.lemmas.Int.{to_z-of_z}
use Rattle.std.proofs.Math.Facts.{Fits-of_z}
use Rattle.std.proofs.Math.Seq.{drop-append-add}
use Rattle.std.proofs.lemmas.List.{take_at, drop_at, ext_get_or}
use Rattle.std.proofs.lemmas.List.FromFn.{get_or-map-range_with_len, length-map-range_with_len}
use Rattle.std.proofs.lemmas.Slice.Eq.{bytes_eq-Decides}
use Rattle.std.proofs.lemmas.List.Concat.{flat_map-cons}
use Rattle.std.proofs.lemmas.List.Elements.{All-get_or}
use Rattle.wf_model.specs.declared.header.Header.{Header}
use Rattle.wf_model.specs.declared.header.Var.{Var}
use Rattle.wf_model.specs.declared.cdf_error.SlabError.TheVariants as slab
use Rattle.wf_model.specs.Bytes.{int_bytes, slab_bytes, char_bytes}
use Rattle.wf_model.specs.Sizes.{is_record_var, lengths, product, rest_of, type_size}
use Rattle.wf_model.specs.CdfRead.{has_name, slab_bytes_of, ints, ints_of, slab_at, chars_at}
use Rattle.wf_cdf_laws.specs.SlabsAgain.{IsRecorded, slab_place, SlabsAreReadAgain, TextsAreReadAgain}
use Rattle.wf_cdf_laws.proofs.Fields.{four_big}
use Rattle.wf_cdf_laws.proofs.Headers.{is_true}

-- the bytes of a slab that stand at its place are those that are found
found_again : (h : Header) (v : Var) (type : ℕ) (shape : List ℕ) (rec : ℕ) (front text rest : List ℕ) →
    IsRecorded h v type shape rec → length front ≡ slab_place h v rec → product shape * type_size type ≡ length text →
    slab_bytes_of (front ++ (text ++ rest)) h (find (has_name v.name) h.vars) type shape rec ≡ Ok text
found_again h v type shape rec front text rest is place size =
    let bytes : List ℕ = front ++ (text ++ rest) in
    let at : ℕ = slab_place h v rec in
    let whole : length bytes ≡ length front + (length text + length rest) = length-append front (text ++ rest) ∙ ap (λ n. length front + n) (length-append text rest) in
    let enough : at + product shape * type_size type ≤ length bytes = omega (arith, whole, place, size) in
    ap (λ o. slab_bytes_of bytes h o type shape rec) is.found
    ∙ ap (λ b. cond (not b) (Err slab.WrongType) (cond (not (is_record_var h.dims v && (bytes_eq (lengths h.dims (rest_of v.dims)) shape && ltb rec h.numrecs))) (Err slab.WrongShape)
    (cond (ltb (length bytes) (at + product shape * type_size type)) (Err (slab.Truncated (length bytes))) (Ok (take (product shape * type_size type) (drop at bytes)))))) (eq-eqb v.kind type is.kind)
    ∙ ap (λ b. cond (not (b && (bytes_eq (lengths h.dims (rest_of v.dims)) shape && ltb rec h.numrecs))) (Err slab.WrongShape)
    (cond (ltb (length bytes) (at + product shape * type_size type)) (Err (slab.Truncated (length bytes))) (Ok (take (product shape * type_size type) (drop at bytes))))) (is_true (is_record_var h.dims v) is.recorded)
    ∙ ap (λ b. cond (not (b && ltb rec h.numrecs)) (Err slab.WrongShape)
    (cond (ltb (length bytes) (at + product shape * type_size type)) (Err (slab.Truncated (length bytes))) (Ok (take (product shape * type_size type) (drop at bytes))))) ((bytes_eq-Decides (lengths h.dims (rest_of v.dims)) shape).1 is.shaped)
    ∙ ap (λ b. cond (not b) (Err slab.WrongShape)
    (cond (ltb (length bytes) (at + product shape * type_size type)) (Err (slab.Truncated (length bytes))) (Ok (take (product shape * type_size type) (drop at bytes))))) (lt-ltb rec h.numrecs is.within)
    ∙ ap (λ b. cond b (Err (slab.Truncated (length bytes))) (Ok (take (product shape * type_size type) (drop at bytes)))) (le-ltb (length bytes) (at + product shape * type_size type) enough)
    ∙ ap (λ bs. Ok (take (product shape * type_size type) bs)) (drop_at front (text ++ rest) at place)
    ∙ ap (λ bs. Ok bs) (take_at text rest (product shape * type_size type) (sym size))

-- a number's four bytes
int_again : (z : ℤ) → FitsSigned w32 z → cast_signed w32 (big_endian 0 (int_bytes z)) ≡ z
int_again z fits = ap (cast_signed w32) (four_big (cast_unsigned w32 z) (Fits-of_z fits).fits) ∙ to_z-of_z w32 z fits

-- they stand one after another
bytes_of_one : (values : List ℤ) (k : ℕ) → k < length values → take 4 (drop (4 * k) (flat_map int_bytes values)) ≡ int_bytes (get_or values k (pos 0))
bytes_of_one [] k h = absurd (omega arith)
bytes_of_one (z ∷ zs) zero h = ap (take 4) (flat_map-cons int_bytes z zs) ∙ take_at (int_bytes z) (flat_map int_bytes zs) 4 refl
bytes_of_one (z ∷ zs) (suc k) h =
    let there : 4 * suc k ≡ 4 + 4 * k = omega arith in
    ap (λ bs. take 4 (drop (4 * suc k) bs)) (flat_map-cons int_bytes z zs)
    ∙ ap (λ n. take 4 (drop n (int_bytes z ++ flat_map int_bytes zs))) there
    ∙ ap (take 4) (drop-append-add (int_bytes z) (flat_map int_bytes zs) (4 * k))
    ∙ bytes_of_one zs k (omega arith)

pub all_bytes : (values : List ℤ) → length (flat_map int_bytes values) ≡ 4 * length values
all_bytes [] = refl
all_bytes (z ∷ zs) = let more = all_bytes zs in ap length (flat_map-cons int_bytes z zs) ∙ length-append (int_bytes z) (flat_map int_bytes zs) ∙ omega (arith, more)

-- the numbers of a slab
abbrev here : List ℕ → ℕ → ℤ
here bytes m = cast_signed w32 (big_endian 0 (take 4 (drop (4 * m) bytes)))

ints_again : (values : List ℤ) → All (FitsSigned w32) values → ints (length values) (flat_map int_bytes values) ≡ values
ints_again values fit =
    ext_get_or (pos 0) (ints (length values) (flat_map int_bytes values)) values (length-map-range_with_len (here (flat_map int_bytes values)) 0 (length values))
    (λ k h. let lt : k < length values = omega (arith, length-map-range_with_len (here (flat_map int_bytes values)) 0 (length values)) in
    get_or-map-range_with_len (here (flat_map int_bytes values)) 0 (length values) k k (pos 0) lt (zero-add k)
    ∙ ap (λ bs. cast_signed w32 (big_endian 0 bs)) (bytes_of_one values k lt)
    ∙ int_again (get_or values k (pos 0)) (All-get_or (FitsSigned w32) values k (pos 0) lt fit))

pub slabs_again : SlabsAreReadAgain
unfolding slab_at slab_bytes
slabs_again h v shape rec values front rest is count fit place =
    let size : product shape * 4 ≡ length (flat_map int_bytes values) = omega (arith, count, all_bytes values) in
    ap (ints_of (product shape)) (found_again h v 4 shape rec front (flat_map int_bytes values) rest is place size)
    ∙ ap (λ n. Ok (ints n (flat_map int_bytes values))) count ∙ ap (λ zs. Ok zs) (ints_again values fit)

-- with what is behind a text
pads_behind : (pads : Bool) (text rest : List ℕ) → (more : List ℕ) × (char_bytes pads text ++ rest ≡ text ++ more)
pads_behind false text rest = (rest, refl)
pads_behind true text rest = (replicate ((4 - length text % 4) % 4) 0 ++ rest, append_assoc text (replicate ((4 - length text % 4) % 4) 0) rest)

pub texts_again : TextsAreReadAgain
unfolding chars_at
texts_again h v rec pads text front rest is place =
    let behind = pads_behind pads text rest in
    let size : product (length text ∷ []) * 1 ≡ length text = omega arith in
    ap (λ bs. slab_bytes_of (front ++ bs) h (find (has_name v.name) h.vars) 2 (length text ∷ []) rec) behind.1
    ∙ found_again h v 2 (length text ∷ []) rec front text behind.0 is place size
