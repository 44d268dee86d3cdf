-- The sizes of a stream's files, whatever the text of the start, of a given length, and the number of steps.
use Rattle.std.proofs.Common.{◌≡◌, ℕ, ◌+◌, ◌-◌, ◌*◌, ◌%◌, ◌≤◌, max, min, Bool, true, false, cond, List, [], ◌∷◌, ◌++◌, length, codes, refl, sym, ap, ◌∙◌, arith, length-append}
use Rattle.std.specs.Prelude.{flat_map, ◌==◌, ◌&&◌, replicate, IsTrue}
use Rattle.std.specs.Str.{bytes_eq}
use Rattle.std.proofs.lemmas.List.{length-replicate}
use Rattle.std.proofs.lemmas.Slice.Eq.{bytes_eq-Decides}
use Rattle.std.proofs.Math.Nat.{mul-le-mul}
use Rattle.wf_model.specs.declared.plan.Plan.{Plan}
use Rattle.wf_model.specs.declared.header.Header.{Header}
use Rattle.wf_model.specs.declared.header.Att.{Att}
use Rattle.wf_model.specs.Calendar.{moment_of, text_of}
use Rattle.wf_model.specs.Dates.{is_stamp}
use Rattle.wf_model.specs.Script.{restart_stream}
use Rattle.wf_model.specs.Bytes.{four_bytes, padded, name_bytes, att_bytes, dim_bytes, var_bytes, list_bytes, header_bytes}
use Rattle.wf_model.specs.Headers.{text_att, int_att, dims_of, file_header}
use Rattle.wf_model.specs.Sizes.{file_size, fixed_size, record_size}
use Rattle.wf_cdf.proofs.Lengths.{length_list_bytes, length_header_bytes}

-- a text with its padding
length_padded : (text : List ℕ) → length (padded text) ≡ length text + (4 - length text % 4) % 4
length_padded text = length-append text (replicate ((4 - length text % 4) % 4) 0) ∙ ap (λ (n : ℕ). length text + n) (length-replicate ((4 - length text % 4) % 4) 0)

padded_alike : (a b : List ℕ) → length a ≡ length b → length (padded a) ≡ length (padded b)
padded_alike a b same = length_padded a ∙ ap (λ (n : ℕ). n + (4 - n % 4) % 4) same ∙ sym (length_padded b)

-- attributes of one name
att_parts : (name kind count bytes : List ℕ) → length (name ++ kind ++ count ++ bytes) ≡ length name + length kind + length count + length bytes
att_parts name kind count bytes = omega (arith, length-append name kind, length-append (name ++ kind) count, length-append (name ++ kind ++ count) bytes)

text_alike : (name a b : List ℕ) → length a ≡ length b → length (att_bytes (text_att name a)) ≡ length (att_bytes (text_att name b))
text_alike name a b same =
    omega (
      arith,
      att_parts (name_bytes name) (four_bytes 2) (four_bytes (length a)) (padded a),
      att_parts (name_bytes name) (four_bytes 2) (four_bytes (length b)) (padded b),
      padded_alike a b same,
    )

int_alike : (name : List ℕ) (m n : ℕ) → length (att_bytes (int_att name m)) ≡ length (att_bytes (int_att name n))
int_alike name m n =
    omega (
      arith,
      att_parts (name_bytes name) (four_bytes 4) (four_bytes 1) (padded (four_bytes m)),
      att_parts (name_bytes name) (four_bytes 4) (four_bytes 1) (padded (four_bytes n)),
    )

-- the steps alone, where the stream holds them
steps_alike : (holds : Bool) (m n : ℕ) → length (flat_map att_bytes (cond holds (int_att (codes "STEPS") m ∷ []) [])) ≡ length (flat_map att_bytes (cond holds (int_att (codes "STEPS") n ∷ []) []))
steps_alike true m n =
    let same = int_alike (codes "STEPS") m n in
    omega (arith, length-append (att_bytes (int_att (codes "STEPS") m)) [], length-append (att_bytes (int_att (codes "STEPS") n)) [])
steps_alike false m n = refl

two_more : (x y : Att) (rest : List Att) → length (list_bytes 12 att_bytes (x ∷ y ∷ rest)) ≡ 8 + (length (att_bytes x) + (length (att_bytes y) + length (flat_map att_bytes rest)))
two_more x y rest = omega (arith, length_list_bytes 12 att_bytes (x ∷ y ∷ rest), length-append (att_bytes x) (att_bytes y ++ flat_map att_bytes rest), length-append (att_bytes y) (flat_map att_bytes rest))

alike : (x z y : Att) (r s : List Att) → length (att_bytes x) ≡ length (att_bytes z) → length (flat_map att_bytes r) ≡ length (flat_map att_bytes s)
    → length (list_bytes 12 att_bytes (x ∷ y ∷ r)) ≡ length (list_bytes 12 att_bytes (z ∷ y ∷ s))
alike x z y r s first rest = omega (arith, two_more x y r, two_more z y s)

-- headers that differ in their global attributes alone
same_length : (h k : Header) → h.dims ≡ k.dims → h.version ≡ k.version → h.vars ≡ k.vars → length (list_bytes 12 att_bytes h.atts) ≡ length (list_bytes 12 att_bytes k.atts)
    → length (header_bytes h) ≡ length (header_bytes k)
same_length h k dims version vars atts =
    let d : length (list_bytes 10 dim_bytes h.dims) ≡ length (list_bytes 10 dim_bytes k.dims) = λ i. length (list_bytes 10 dim_bytes (dims i)) in
    let v : length (list_bytes 11 (var_bytes h.version) h.vars) ≡ length (list_bytes 11 (var_bytes k.version) k.vars) = λ i. length (list_bytes 11 (var_bytes (version i)) (vars i)) in
    omega (arith, length_header_bytes h, length_header_bytes k)

-- a header is as long as another of the same stream
pub header_alike : (plan : Plan) (d stream : ℕ) (a b : List ℕ) (m n : ℕ) → length a ≡ length b → length (header_bytes (file_header plan d stream a m)) ≡ length (header_bytes (file_header plan d stream b n))
unfolding file_header
header_alike plan d stream a b m n same =
    same_length (file_header plan d stream a m) (file_header plan d stream b n) refl refl refl
    (alike (text_att (codes "START_DATE") a) (text_att (codes "START_DATE") b) (int_att (codes "GRID_ID") d) _ _ (text_alike (codes "START_DATE") a b same) (steps_alike (stream == restart_stream) (min m 2147483647) (min n 2147483647)))

-- a text of a moment has 19 characters
pub stamp_length : (text : List ℕ) → IsTrue (is_stamp text) → length text ≡ 19
stamp_length text is = ap length ((bytes_eq-Decides text (text_of (moment_of text))).0 (last_holds _ (bytes_eq text (text_of (moment_of text))) is))
  where
    last_holds : (a b : Bool) → (a && b) ≡ true → b ≡ true
    last_holds true b h = h
    last_holds false b h = cc

-- one record is no more than any number
less_with_one : (before other fixed one records most : ℕ) → before ≡ other → other + fixed + max 1 records * one ≤ most → before + fixed + max 1 1 * one ≤ most
less_with_one before other fixed one records most same fits =
    let fewer : max 1 1 ≤ max 1 records = omega arith in
    let least : one ≤ one = omega arith in
    let less : max 1 1 * one ≤ max 1 records * one = mul-le-mul fewer least in
    omega arith

-- a file fits with one record, where one of the same stream fits
pub one_record_fits : (plan : Plan) (d stream : ℕ) (a b : List ℕ) (m n records most : ℕ) → length a ≡ length b
    → file_size (file_header plan d stream b n) records ≤ most → file_size (file_header plan d stream a m) 1 ≤ most
unfolding file_header
one_record_fits plan d stream a b m n records most same fits =
    less_with_one (length (header_bytes (file_header plan d stream a m))) (length (header_bytes (file_header plan d stream b n))) (fixed_size (file_header plan d stream b n)) (record_size (file_header plan d stream b n)) records most
    (header_alike plan d stream a b m n same) fits
