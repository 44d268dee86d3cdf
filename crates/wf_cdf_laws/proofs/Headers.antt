-- Variables and headers are read again.
use Rattle.std.proofs.Common.{◌≡◌, ◌⊎◌, ℕ, ◌+◌, ◌-◌, ◌*◌, ◌^◌, ◌<◌, ◌≤◌, Bool, true, false, not, cond, eqb, List, [], ◌∷◌, ◌++◌, length, Result, Ok, Err, IsTrue, refl, sym, ap, ◌∙◌, append_assoc, eq-eqb, inl, inr, arith}
use Rattle.std.specs.Prelude.{◌||◌}
use Rattle.std.specs.List.{flat_map, filter, AllByRecursion}
use Rattle.std.proofs.lemmas.Bool.{ne_eqb, eqb-true}
use Rattle.std.proofs.lemmas.List.Elements.{recursion_from_All}
use Rattle.std.specs.Slice.Scan.{big_endian}
use Rattle.wf_model.specs.declared.header.Header.{Header}
use Rattle.wf_model.specs.declared.header.Dim.{Dim}
use Rattle.wf_model.specs.declared.header.Var.{Var}
use Rattle.wf_model.specs.declared.cdf_error.CdfError.{CdfError}
use Rattle.wf_model.specs.declared.cdf_error.CdfError.TheVariants as cdf
use Rattle.wf_model.specs.Bytes.{four_bytes, eight_bytes, name_bytes, list_bytes, dim_bytes, att_bytes, begin_bytes, var_bytes, header_bytes}
use Rattle.wf_model.specs.CdfRead.{Reading, then_read, raw, number, count, name, list_size, dims, kind, atts, items, dim_numbers, begin_size, var, letters, version_byte, record_count, header_from, only_header, header_at}
use Rattle.wf_model.specs.Sizes.{is_record_dim, dim_of, rest_of}
use Rattle.wf_model.specs.SoundHeader.{IsCount, IsSoundDim, IsSoundVar, IsSoundHeader, BeginsFit}
use Rattle.wf_cdf_laws.specs.ReadAgain.{NumbersFit}
use Rattle.wf_cdf_laws.proofs.Standing.{ReadsAgain, then_again, made_again, other_text, nothing_again, items_again}
use Rattle.wf_cdf_laws.proofs.Fields.{raw_again, number_again, long_again, count_again, name_again}
use Rattle.wf_cdf_laws.proofs.Lists.{list_again, dims_again, kind_again, atts_again, numbers_first}

-- ---- variables

-- what is true is the test's answer
pub is_true : (b : Bool) → IsTrue b → b ≡ true
is_true true h = refl
is_true false h = absurd cc

-- the numbers of dimensions behind the first
numbers_behind : (ds : List Dim) (ns : List ℕ) → IsCount (length ds) → AllByRecursion (λ n. n < length ds) ns →
    AllByRecursion (λ n. IsTrue (not (is_record_dim (dim_of ds n)))) ns → ReadsAgain (dim_numbers ds false (length ns)) (flat_map four_bytes ns) ns
numbers_behind ds [] few there fixed = nothing_again []
numbers_behind ds (n ∷ ns) few there fixed =
    numbers_first ds false n ns (let below : n < length ds = there.0 in omega arith) there.0 (is_true (not (is_record_dim (dim_of ds n))) fixed.0) (numbers_behind ds ns few there.1 fixed.1)

-- and all of them
numbers_again : (ds : List Dim) (ns : List ℕ) → IsCount (length ds) → AllByRecursion (λ n. n < length ds) ns →
    AllByRecursion (λ n. IsTrue (not (is_record_dim (dim_of ds n)))) (rest_of ns) → ReadsAgain (dim_numbers ds true (length ns)) (flat_map four_bytes ns) ns
numbers_again ds [] few there fixed = nothing_again []
numbers_again ds (n ∷ ns) few there fixed =
    numbers_first ds true n ns (let below : n < length ds = there.0 in omega arith) there.0 refl (numbers_behind ds ns few there.1 fixed)

-- where a variable begins
begin_cases : (b : Bool) (begin : ℕ) → (b ≡ true → begin < 2 ^ 32) → begin < 2 ^ 64 →
    ReadsAgain (number (cond b 4 8)) (cond b (four_bytes begin) (eight_bytes begin)) begin
begin_cases true begin narrow wide = number_again begin (narrow refl)
begin_cases false begin narrow wide = long_again begin wide

begin_again : (version begin : ℕ) → (version ≡ 1 → begin < 2 ^ 32) → begin < 2 ^ 64 → ReadsAgain (number (begin_size version)) (begin_bytes version begin) begin
begin_again version begin narrow wide = begin_cases (eqb version 1) begin (λ e. narrow (eqb-true version 1 e)) wide

-- seven texts one after another, from the left and from the right
seven : (a b c d e f g : List ℕ) → a ++ (b ++ (c ++ (d ++ (e ++ (f ++ g))))) ≡ (((((a ++ b) ++ c) ++ d) ++ e) ++ f) ++ g
seven a b c d e f g =
    sym (append_assoc a b (c ++ (d ++ (e ++ (f ++ g))))) ∙ sym (append_assoc (a ++ b) c (d ++ (e ++ (f ++ g))))
    ∙ sym (append_assoc ((a ++ b) ++ c) d (e ++ (f ++ g))) ∙ sym (append_assoc (((a ++ b) ++ c) ++ d) e (f ++ g))
    ∙ sym (append_assoc ((((a ++ b) ++ c) ++ d) ++ e) f g)

var_again : (version : ℕ) (ds : List Dim) (v : Var) → IsCount (length ds) → IsSoundVar ds v → v.vsize < 2 ^ 32 → (version ≡ 1 → v.begin < 2 ^ 32) → v.begin < 2 ^ 64 →
    ReadsAgain (var version ds) (var_bytes version v) v
var_again version ds v few h size narrow wide =
    let n1 = name_bytes v.name in
    let n2 = four_bytes (length v.dims) in
    let n3 = flat_map four_bytes v.dims in
    let n4 = list_bytes 12 att_bytes v.atts in
    let n5 = four_bytes v.kind in
    let n6 = four_bytes v.vsize in
    let n7 = begin_bytes version v.begin in
    other_text (var version ds) (n1 ++ (n2 ++ (n3 ++ (n4 ++ (n5 ++ (n6 ++ n7)))))) (var_bytes version v) v (seven n1 n2 n3 n4 n5 n6 n7)
    (then_again name (λ n bytes a1. then_read (count bytes a1) λ rank a2. then_read (dim_numbers ds true rank bytes a2) λ ns a3. then_read (atts bytes a3) λ as_ a4. then_read (kind bytes a4) λ t a5. then_read (number 4 bytes a5) λ s a6. then_read (number (begin_size version) bytes a6) λ b a7. Ok (record { name = n; dims = ns; atts = as_; kind = t; vsize = s; begin = b }, a7))
    n1 (n2 ++ (n3 ++ (n4 ++ (n5 ++ (n6 ++ n7))))) v.name v (name_again v.name h.name)
    (then_again count (λ rank bytes a2. then_read (dim_numbers ds true rank bytes a2) λ ns a3. then_read (atts bytes a3) λ as_ a4. then_read (kind bytes a4) λ t a5. then_read (number 4 bytes a5) λ s a6. then_read (number (begin_size version) bytes a6) λ b a7. Ok (record { name = v.name; dims = ns; atts = as_; kind = t; vsize = s; begin = b }, a7))
    n2 (n3 ++ (n4 ++ (n5 ++ (n6 ++ n7)))) (length v.dims) v (count_again (length v.dims) h.rank)
    (then_again (dim_numbers ds true (length v.dims)) (λ ns bytes a3. then_read (atts bytes a3) λ as_ a4. then_read (kind bytes a4) λ t a5. then_read (number 4 bytes a5) λ s a6. then_read (number (begin_size version) bytes a6) λ b a7. Ok (record { name = v.name; dims = ns; atts = as_; kind = t; vsize = s; begin = b }, a7))
    n3 (n4 ++ (n5 ++ (n6 ++ n7))) v.dims v
    (numbers_again ds v.dims few (recursion_from_All (λ n. n < length ds) v.dims h.dims_are) (recursion_from_All (λ n. IsTrue (not (is_record_dim (dim_of ds n)))) (rest_of v.dims) h.record_first))
    (then_again atts (λ as_ bytes a4. then_read (kind bytes a4) λ t a5. then_read (number 4 bytes a5) λ s a6. then_read (number (begin_size version) bytes a6) λ b a7. Ok (record { name = v.name; dims = v.dims; atts = as_; kind = t; vsize = s; begin = b }, a7))
    n4 (n5 ++ (n6 ++ n7)) v.atts v (atts_again v.atts h.atts h.count)
    (then_again kind (λ t bytes a5. then_read (number 4 bytes a5) λ s a6. then_read (number (begin_size version) bytes a6) λ b a7. Ok (record { name = v.name; dims = v.dims; atts = v.atts; kind = t; vsize = s; begin = b }, a7))
    n5 (n6 ++ n7) v.kind v (kind_again v.kind h.kind)
    (then_again (number 4) (λ s bytes a6. then_read (number (begin_size version) bytes a6) λ b a7. Ok (record { name = v.name; dims = v.dims; atts = v.atts; kind = v.kind; vsize = s; begin = b }, a7))
    n6 n7 v.vsize v (number_again v.vsize size)
    (made_again (number (begin_size version)) (λ b. record { name = v.name; dims = v.dims; atts = v.atts; kind = v.kind; vsize = v.vsize; begin = b }) n7 v.begin (begin_again version v.begin narrow wide))))))))

-- what each variable of a header keeps
pub record IsFittingVar (version : ℕ) (ds : List Dim) (v : Var) : Type 0 where
  pub sound : IsSoundVar ds v
  pub size : v.vsize < 2 ^ 32
  pub narrow : version ≡ 1 → v.begin < 2 ^ 32
  pub wide : v.begin < 2 ^ 64

each_var : (version : ℕ) (ds : List Dim) (vs : List Var) → IsCount (length ds) → AllByRecursion (IsSoundVar ds) vs →
    (version ≡ 1 → AllByRecursion (λ v. v.begin < 2 ^ 32) vs) → AllByRecursion (λ v. (v.vsize < 2 ^ 32) × (v.begin < 2 ^ 64)) vs →
    AllByRecursion (λ v. ReadsAgain (var version ds) (var_bytes version v) v) vs
each_var version ds [] few sound narrow fit = tt
each_var version ds (v ∷ vs) few sound narrow fit =
    (var_again version ds v few sound.0 fit.0.0 (λ e. (narrow e).0) fit.0.1, each_var version ds vs few sound.1 (λ e. (narrow e).1) fit.1)

-- ---- the front

byte_again : (b : ℕ) → ReadsAgain (number 1) (b ∷ []) b
byte_again b bytes at rest s =
    made_again (raw 1) (big_endian 0) (b ∷ []) (b ∷ []) (raw_again (b ∷ [])) bytes at rest s ∙ (let same : 0 * 256 + b ≡ b = omega arith in ap (λ m. Ok (m, at + 1)) same)

letters_again : (cs : List ℕ) → ReadsAgain (letters cs) cs []
letters_again [] = nothing_again []
letters_again (c ∷ cs) =
    then_again (number 1) (λ b bytes next. cond (eqb b c) (letters cs bytes next) (Err cdf.NotCdf)) (c ∷ []) cs c [] (byte_again c)
    (λ bytes at rest s. ap (λ t. cond t (letters cs bytes at) (Err cdf.NotCdf)) (eq-eqb c c refl) ∙ letters_again cs bytes at rest s)

version_test : (v : ℕ) → (v ≡ 1) ⊎ (v ≡ 2) → (eqb v 1 || eqb v 2) ≡ true
version_test v (inl e) = ap (λ n. eqb n 1 || eqb n 2) e
version_test v (inr e) = ap (λ n. eqb n 1 || eqb n 2) e

version_again : (v : ℕ) → (v ≡ 1) ⊎ (v ≡ 2) → ReadsAgain version_byte (v ∷ []) v
version_again v h bytes at rest s =
    ap (λ r. then_read r λ m next. cond (eqb m 1 || eqb m 2) (Ok (m, next)) (Err cdf.Version)) (byte_again v bytes at rest s)
    ∙ ap (λ b. cond b (Ok (v, at + 1)) (Err cdf.Version)) (version_test v h)

record_count_again : (n : ℕ) → n < 2 ^ 32 - 1 → ReadsAgain record_count (four_bytes n) n
record_count_again n h bytes at rest s =
    ap (λ r. then_read r λ m next. cond (eqb m 4294967295) (Err cdf.Streaming) (Ok (m, next))) (number_again n (omega arith) bytes at rest s)
    ∙ ap (λ b. cond b (Err cdf.Streaming) (Ok (n, at + 4))) (ne_eqb n 4294967295 (λ e. omega arith))

-- ---- the whole

-- a reading in two steps, told in another way
read_on : {A B C : Type 0} (read : Result (A × ℕ) CdfError) (f : A → ℕ → Result (B × ℕ) CdfError) (g : B → ℕ → Result (C × ℕ) CdfError) →
    then_read (then_read read f) g ≡ then_read read λ x next. then_read (f x next) g
read_on (Ok p) f g = refl
read_on (Err e) f g = refl

-- a list, and what follows it
list_then : {A B : Type 0} (tag : ℕ) (text : A → List ℕ) (each : ℕ → Reading (List A)) (xs : List A) (next : List A → Reading B) (b : List ℕ) (y : B) →
    0 < tag → tag < 2 ^ 32 → IsCount (length xs) → ReadsAgain (each (length xs)) (flat_map text xs) xs → ReadsAgain (next xs) b y →
    ReadsAgain (λ bytes at. then_read (list_size tag bytes at) λ n a1. then_read (each n bytes a1) λ zs a2. next zs bytes a2) (list_bytes tag text xs ++ b) y
list_then tag text each xs next b y above small h again after bytes at rest s =
    sym (read_on (list_size tag bytes at) (λ n a1. each n bytes a1) (λ zs a2. next zs bytes a2))
    ∙ then_again (λ bytes at. then_read (list_size tag bytes at) λ n a1. each n bytes a1) next (list_bytes tag text xs) b xs y
    (list_again tag text each xs above small h again) after bytes at rest s

-- a list, and what is made of it
list_made : {A B : Type 0} (tag : ℕ) (text : A → List ℕ) (each : ℕ → Reading (List A)) (xs : List A) (f : List A → B) →
    0 < tag → tag < 2 ^ 32 → IsCount (length xs) → ReadsAgain (each (length xs)) (flat_map text xs) xs →
    ReadsAgain (λ bytes at. then_read (list_size tag bytes at) λ n a1. then_read (each n bytes a1) λ zs a2. Ok (f zs, a2)) (list_bytes tag text xs) (f xs)
list_made tag text each xs f above small h again bytes at rest s =
    sym (read_on (list_size tag bytes at) (λ n a1. each n bytes a1) (λ zs a2. Ok (f zs, a2)))
    ∙ made_again (λ bytes at. then_read (list_size tag bytes at) λ n a1. each n bytes a1) f (list_bytes tag text xs) xs
    (list_again tag text each xs above small h again) bytes at rest s

-- what follows the number of records
abbrev lists_from : ℕ → ℕ → Reading Header
lists_from version numrecs bytes at =
    then_read (list_size 10 bytes at) λ n a4. then_read (dims n false bytes a4) λ ds a5. then_read (atts bytes a5) λ as_ a6.
    then_read (list_size 11 bytes a6) λ m a7. then_read (items (var version ds) m bytes a7) λ vs a8.
    Ok (record { version = version; numrecs = numrecs; dims = ds; atts = as_; vars = vs }, a8)

lists_again : (h : Header) → IsSoundHeader h → BeginsFit h → NumbersFit h →
    ReadsAgain (lists_from h.version h.numrecs) (list_bytes 10 dim_bytes h.dims ++ (list_bytes 12 att_bytes h.atts ++ list_bytes 11 (var_bytes h.version) h.vars)) h
lists_again h sound begins numbers =
    let few : cond false 1 0 + length (filter is_record_dim h.dims) ≤ 1 = (let one : length (filter is_record_dim h.dims) ≤ 1 = sound.one_record in omega arith) in
    list_then 10 dim_bytes (λ n. dims n false) h.dims
    (λ ds bytes a5. then_read (atts bytes a5) λ as_ a6. then_read (list_size 11 bytes a6) λ m a7. then_read (items (var h.version ds) m bytes a7) λ vs a8. Ok (record { version = h.version; numrecs = h.numrecs; dims = ds; atts = as_; vars = vs }, a8))
    (list_bytes 12 att_bytes h.atts ++ list_bytes 11 (var_bytes h.version) h.vars) h (omega arith) (omega arith) sound.dim_count
    (dims_again false h.dims (recursion_from_All IsSoundDim h.dims sound.dims) few)
    (then_again atts (λ as_ bytes a6. then_read (list_size 11 bytes a6) λ m a7. then_read (items (var h.version h.dims) m bytes a7) λ vs a8. Ok (record { version = h.version; numrecs = h.numrecs; dims = h.dims; atts = as_; vars = vs }, a8))
    (list_bytes 12 att_bytes h.atts) (list_bytes 11 (var_bytes h.version) h.vars) h.atts h (atts_again h.atts sound.atts sound.att_count)
    (list_made 11 (var_bytes h.version) (items (var h.version h.dims)) h.vars (λ vs. record { version = h.version; numrecs = h.numrecs; dims = h.dims; atts = h.atts; vars = vs })
    (omega arith) (omega arith) sound.var_count
    (items_again (var h.version h.dims) (var_bytes h.version) h.vars
    (each_var h.version h.dims h.vars sound.dim_count (recursion_from_All (IsSoundVar h.dims) h.vars sound.vars)
    (λ e. recursion_from_All (λ v. v.begin < 2 ^ 32) h.vars (begins e)) (recursion_from_All (λ v. (v.vsize < 2 ^ 32) × (v.begin < 2 ^ 64)) h.vars numbers)))))

-- five texts one after another, from the left and from the right
five : (a b c d e : List ℕ) → a ++ (b ++ (c ++ (d ++ e))) ≡ (((a ++ b) ++ c) ++ d) ++ e
five a b c d e =
    sym (append_assoc a b (c ++ (d ++ e))) ∙ sym (append_assoc (a ++ b) c (d ++ e)) ∙ sym (append_assoc ((a ++ b) ++ c) d e)

-- the whole header
header_again : (h : Header) → IsSoundHeader h → BeginsFit h → NumbersFit h →
    ReadsAgain (λ bytes at. then_read (letters (67 ∷ 68 ∷ 70 ∷ []) bytes at) λ magic a1. then_read (version_byte bytes a1) λ version a2. then_read (record_count bytes a2) λ numrecs a3. lists_from version numrecs bytes a3)
    (header_bytes h) h
unfolding header_bytes
header_again h sound begins numbers =
    let lists : List ℕ = list_bytes 10 dim_bytes h.dims ++ (list_bytes 12 att_bytes h.atts ++ list_bytes 11 (var_bytes h.version) h.vars) in
    other_text (λ bytes at. then_read (letters (67 ∷ 68 ∷ 70 ∷ []) bytes at) λ magic a1. then_read (version_byte bytes a1) λ version a2. then_read (record_count bytes a2) λ numrecs a3. lists_from version numrecs bytes a3)
    ((67 ∷ 68 ∷ 70 ∷ []) ++ ((h.version ∷ []) ++ (four_bytes h.numrecs ++ lists))) (header_bytes h) h
    (five (67 ∷ 68 ∷ 70 ∷ []) (h.version ∷ four_bytes h.numrecs) (list_bytes 10 dim_bytes h.dims) (list_bytes 12 att_bytes h.atts) (list_bytes 11 (var_bytes h.version) h.vars))
    (then_again (letters (67 ∷ 68 ∷ 70 ∷ [])) (λ magic bytes a1. then_read (version_byte bytes a1) λ version a2. then_read (record_count bytes a2) λ numrecs a3. lists_from version numrecs bytes a3)
    (67 ∷ 68 ∷ 70 ∷ []) ((h.version ∷ []) ++ (four_bytes h.numrecs ++ lists)) [] h (letters_again (67 ∷ 68 ∷ 70 ∷ []))
    (then_again version_byte (λ version bytes a2. then_read (record_count bytes a2) λ numrecs a3. lists_from version numrecs bytes a3)
    (h.version ∷ []) (four_bytes h.numrecs ++ lists) h.version h (version_again h.version sound.version)
    (then_again record_count (λ numrecs. lists_from h.version numrecs) (four_bytes h.numrecs) lists h.numrecs h (record_count_again h.numrecs sound.numrecs)
    (lists_again h sound begins numbers))))

-- at the front of a file
pub read_again : (h : Header) (rest : List ℕ) → IsSoundHeader h → BeginsFit h → NumbersFit h → header_at (header_bytes h ++ rest) ≡ Ok h
unfolding header_at header_from
read_again h rest sound begins numbers =
    ap only_header (header_again h sound begins numbers (header_bytes h ++ rest) 0 rest (record { within = omega arith; parts = refl }))
