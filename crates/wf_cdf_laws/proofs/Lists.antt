-- Lists, dimensions, attributes and variables are read again.
use Rattle.std.proofs.Common.{◌≡◌, ℕ, suc, ◌+◌, ◌*◌, ◌^◌, ◌<◌, ◌≤◌, Bool, true, false, not, cond, eqb, ltb, List, [], ◌∷◌, ◌++◌, length, All, Ok, Err, refl, sym, ap, subst, ◌∙◌, append_assoc, eq-eqb, arith}
use Rattle.std.specs.Prelude.{◌&&◌, ◌||◌}
use Rattle.std.specs.List.{flat_map, filter, AllByRecursion}
use Rattle.std.proofs.lemmas.List.{append-nil}
use Rattle.std.proofs.lemmas.List.Concat.{flat_map-cons}
use Rattle.std.proofs.lemmas.List.Elements.{recursion_from_All}
use Rattle.std.proofs.lemmas.Bool.{le-leb, lt-ltb, ne_eqb}
use Rattle.std.proofs.Math.Dec.{leb}
use Rattle.wf_model.specs.declared.header.Dim.{Dim}
use Rattle.wf_model.specs.declared.header.Att.{Att}
use Rattle.wf_model.specs.declared.cdf_error.CdfError.TheVariants as cdf
use Rattle.wf_model.specs.Bytes.{four_bytes, padded, name_bytes, list_bytes, dim_bytes, att_bytes}
use Rattle.wf_model.specs.CdfRead.{Reading, then_read, number, count, padded_bytes, name, tagged, list_size, dims, kind, att, atts, items, dim_number, dim_numbers}
use Rattle.wf_model.specs.Sizes.{type_size, is_record_dim, dim_of}
use Rattle.wf_model.specs.SoundHeader.{IsCount, IsKind, IsSoundDim, IsSoundAtt}
use Rattle.wf_cdf_laws.proofs.Standing.{ReadsAgain, stands-first, stands-then, then_again, made_again, other_text, nothing_again, items_again}
use Rattle.wf_cdf_laws.proofs.Fields.{number_again, count_again, padded_again, name_again}

-- ---- lists

-- a tag and a count
full_again : (tag n : ℕ) → tag < 2 ^ 32 → IsCount n → ReadsAgain (list_size tag) (four_bytes tag ++ four_bytes n) n
full_again tag n small h bytes at rest s =
    ap (λ r. then_read r (λ t next. tagged tag t at bytes next)) (number_again tag small bytes at (four_bytes n ++ rest) (stands-first bytes at (four_bytes tag) (four_bytes n) rest s))
    ∙ ap (λ b. cond b (count bytes (at + 4)) (cond (eqb tag 0) (then_read (number 4 bytes (at + 4)) λ m next. cond (eqb m 0) (Ok (0, next)) (Err (cdf.BadTag at))) (Err (cdf.BadTag at)))) (eq-eqb tag tag refl)
    ∙ count_again n h bytes (at + 4) rest (stands-then bytes at (four_bytes tag) (four_bytes n) rest s)
    ∙ (let there : at + 4 + 4 ≡ at + 8 = omega arith in ap (λ m. Ok (n, m)) there)

-- no tag and no items
empty_again : (tag : ℕ) → 0 < tag → ReadsAgain (list_size tag) (four_bytes 0 ++ four_bytes 0) 0
empty_again tag above bytes at rest s =
    ap (λ r. then_read r (λ t next. tagged tag t at bytes next)) (number_again 0 (omega arith) bytes at (four_bytes 0 ++ rest) (stands-first bytes at (four_bytes 0) (four_bytes 0) rest s))
    ∙ ap (λ b. cond b (count bytes (at + 4)) (then_read (number 4 bytes (at + 4)) λ m next. cond (eqb m 0) (Ok (0, next)) (Err (cdf.BadTag at)))) (ne_eqb 0 tag (λ e. omega arith))
    ∙ ap (λ r. then_read r λ m next. cond (eqb m 0) (Ok (0, next)) (Err (cdf.BadTag at))) (number_again 0 (omega arith) bytes (at + 4) rest (stands-then bytes at (four_bytes 0) (four_bytes 0) rest s))
    ∙ (let there : at + 4 + 4 ≡ at + 8 = omega arith in ap (λ m. Ok (0, m)) there)

-- a whole list, by a reader of so many items
pub list_again : {A : Type 0} (tag : ℕ) (text : A → List ℕ) (each : ℕ → Reading (List A)) (xs : List A) → 0 < tag → tag < 2 ^ 32 → IsCount (length xs) →
    ReadsAgain (each (length xs)) (flat_map text xs) xs →
    ReadsAgain (λ bytes at. then_read (list_size tag bytes at) (λ n next. each n bytes next)) (list_bytes tag text xs) xs
list_again tag text each [] above small h again =
    other_text (λ bytes at. then_read (list_size tag bytes at) (λ n next. each n bytes next)) ((four_bytes 0 ++ four_bytes 0) ++ []) (four_bytes 0 ++ four_bytes 0) []
    (append-nil (four_bytes 0 ++ four_bytes 0)) (then_again (list_size tag) each (four_bytes 0 ++ four_bytes 0) [] 0 [] (empty_again tag above) again)
list_again tag text each (x ∷ xs) above small h again =
    then_again (list_size tag) each (four_bytes tag ++ four_bytes (length (x ∷ xs))) (flat_map text (x ∷ xs)) (length (x ∷ xs)) (x ∷ xs)
    (full_again tag (length (x ∷ xs)) small h) again

-- ---- dimensions

-- of at most one record dimension none is a second
one_record : (b seen : Bool) (d : Dim) (ds : List Dim) → cond seen 1 0 + length (cond b (d ∷ ds) ds) ≤ 1 →
    ((b && seen) ≡ false) × (cond (seen || b) 1 0 + length ds ≤ 1)
one_record true true d ds h = absurd (omega arith)
one_record true false d ds h = (refl, omega arith)
one_record false true d ds h = (refl, omega arith)
one_record false false d ds h = (refl, omega arith)

pub dims_again : (seen : Bool) (ds : List Dim) → AllByRecursion IsSoundDim ds → cond seen 1 0 + length (filter is_record_dim ds) ≤ 1 →
    ReadsAgain (dims (length ds) seen) (flat_map dim_bytes ds) ds
dims_again seen [] sound few = nothing_again []
dims_again seen (d ∷ ds) sound few =
    let one = one_record (is_record_dim d) seen d (filter is_record_dim ds) few in
    let behind : List ℕ = four_bytes d.len ++ flat_map dim_bytes ds in
    let after : ReadsAgain (λ bytes next. then_read (count bytes next) λ l last. cond ((eqb l 0) && seen) (Err (cdf.BadDim next)) (then_read (dims (length ds) (seen || (eqb l 0)) bytes last) λ es end. Ok (record { name = d.name; len = l } ∷ es, end))) (four_bytes d.len ++ flat_map dim_bytes ds) (d ∷ ds) =
    λ bytes at rest s.
    (let there : at + 4 + length (flat_map dim_bytes ds) ≡ at + length (four_bytes d.len ++ flat_map dim_bytes ds) = omega arith in
    ap (λ r. then_read r λ l last. cond ((eqb l 0) && seen) (Err (cdf.BadDim at)) (then_read (dims (length ds) (seen || (eqb l 0)) bytes last) λ es end. Ok (record { name = d.name; len = l } ∷ es, end)))
    (count_again d.len sound.0.len bytes at (flat_map dim_bytes ds ++ rest) (stands-first bytes at (four_bytes d.len) (flat_map dim_bytes ds) rest s))
    ∙ ap (λ b. cond b (Err (cdf.BadDim at)) (then_read (dims (length ds) (seen || is_record_dim d) bytes (at + 4)) λ es end. Ok (d ∷ es, end))) one.0
    ∙ made_again (dims (length ds) (seen || is_record_dim d)) (λ es. d ∷ es) (flat_map dim_bytes ds) ds (dims_again (seen || is_record_dim d) ds sound.1 one.1)
    bytes (at + 4) rest (stands-then bytes at (four_bytes d.len) (flat_map dim_bytes ds) rest s)
    ∙ ap (λ n. Ok (d ∷ ds, n)) there) in
    other_text (dims (suc (length ds)) seen) (name_bytes d.name ++ (four_bytes d.len ++ flat_map dim_bytes ds)) (flat_map dim_bytes (d ∷ ds)) (d ∷ ds)
    (sym (append_assoc (name_bytes d.name) (four_bytes d.len) (flat_map dim_bytes ds)) ∙ sym (flat_map-cons dim_bytes d ds))
    (then_again name (λ m bytes next. then_read (count bytes next) λ l last. cond ((eqb l 0) && seen) (Err (cdf.BadDim next)) (then_read (dims (length ds) (seen || (eqb l 0)) bytes last) λ es end. Ok (record { name = m; len = l } ∷ es, end)))
    (name_bytes d.name) (four_bytes d.len ++ flat_map dim_bytes ds) d.name (d ∷ ds) (name_again d.name sound.0.name) after)

-- ---- attributes

-- a type
pub kind_again : (k : ℕ) → IsKind k → ReadsAgain kind (four_bytes k) k
kind_again k h bytes at rest s =
    let low : 1 ≤ k = h.0 in
    let high : k ≤ 6 = h.1 in
    ap (λ r. then_read r λ n next. cond (leb 1 n && leb n 6) (Ok (n, next)) (Err (cdf.BadType at))) (number_again k (omega arith) bytes at rest s)
    ∙ ap (λ b. cond (b && leb k 6) (Ok (k, at + 4)) (Err (cdf.BadType at))) (le-leb 1 k low)
    ∙ ap (λ b. cond b (Ok (k, at + 4)) (Err (cdf.BadType at))) (le-leb k 6 high)

-- an attribute
att_again : (a : Att) → IsSoundAtt a → ReadsAgain att (att_bytes a) a
att_again a h =
    let values : ReadsAgain (padded_bytes (a.count * type_size a.kind)) (padded a.bytes) a.bytes =
    subst (λ n. ReadsAgain (padded_bytes n) (padded a.bytes) a.bytes) h.bytes (padded_again a.bytes) in
    other_text att (name_bytes a.name ++ (four_bytes a.kind ++ (four_bytes a.count ++ padded a.bytes))) (att_bytes a) a
    (sym (append_assoc (name_bytes a.name) (four_bytes a.kind) (four_bytes a.count ++ padded a.bytes))
    ∙ sym (append_assoc (name_bytes a.name ++ four_bytes a.kind) (four_bytes a.count) (padded a.bytes)))
    (then_again name (λ n bytes a1. then_read (kind bytes a1) λ t a2. then_read (count bytes a2) λ c a3. then_read (padded_bytes (c * type_size t) bytes a3) λ bs a4. Ok (record { name = n; kind = t; count = c; bytes = bs }, a4))
    (name_bytes a.name) (four_bytes a.kind ++ (four_bytes a.count ++ padded a.bytes)) a.name a (name_again a.name h.name)
    (then_again kind (λ t bytes a2. then_read (count bytes a2) λ c a3. then_read (padded_bytes (c * type_size t) bytes a3) λ bs a4. Ok (record { name = a.name; kind = t; count = c; bytes = bs }, a4))
    (four_bytes a.kind) (four_bytes a.count ++ padded a.bytes) a.kind a (kind_again a.kind h.kind)
    (then_again count (λ c bytes a3. then_read (padded_bytes (c * type_size a.kind) bytes a3) λ bs a4. Ok (record { name = a.name; kind = a.kind; count = c; bytes = bs }, a4))
    (four_bytes a.count) (padded a.bytes) a.count a (count_again a.count h.count)
    (made_again (padded_bytes (a.count * type_size a.kind)) (λ bs. record { name = a.name; kind = a.kind; count = a.count; bytes = bs }) (padded a.bytes) a.bytes values))))

each_att : (xs : List Att) → AllByRecursion IsSoundAtt xs → AllByRecursion (λ a. ReadsAgain att (att_bytes a) a) xs
each_att [] all = tt
each_att (a ∷ xs) all = (att_again a all.0, each_att xs all.1)

pub atts_again : (xs : List Att) → All IsSoundAtt xs → IsCount (length xs) → ReadsAgain atts (list_bytes 12 att_bytes xs) xs
atts_again xs all h = list_again 12 att_bytes (items att) xs (omega arith) (omega arith) h (items_again att att_bytes xs (each_att xs (recursion_from_All IsSoundAtt xs all)))

-- ---- variables

-- the number of a dimension
number_of_dim : (ds : List Dim) (first : Bool) (n : ℕ) → n < 2 ^ 32 → n < length ds → (first || not (is_record_dim (dim_of ds n))) ≡ true →
    ReadsAgain (dim_number ds first) (four_bytes n) n
number_of_dim ds first n small there may bytes at rest s =
    ap (λ r. then_read r λ m next. cond (ltb m (length ds) && (first || not (is_record_dim (dim_of ds m)))) (Ok (m, next)) (Err (cdf.BadDim at))) (number_again n small bytes at rest s)
    ∙ ap (λ b. cond (b && (first || not (is_record_dim (dim_of ds n)))) (Ok (n, at + 4)) (Err (cdf.BadDim at))) (lt-ltb n (length ds) there)
    ∙ ap (λ b. cond b (Ok (n, at + 4)) (Err (cdf.BadDim at))) may

-- one number and those behind it
pub numbers_first : (ds : List Dim) (first : Bool) (n : ℕ) (ns : List ℕ) → n < 2 ^ 32 → n < length ds → (first || not (is_record_dim (dim_of ds n))) ≡ true →
    ReadsAgain (dim_numbers ds false (length ns)) (flat_map four_bytes ns) ns → ReadsAgain (dim_numbers ds first (suc (length ns))) (flat_map four_bytes (n ∷ ns)) (n ∷ ns)
numbers_first ds first n ns small there may others =
    other_text (dim_numbers ds first (suc (length ns))) (four_bytes n ++ flat_map four_bytes ns) (flat_map four_bytes (n ∷ ns)) (n ∷ ns) (sym (flat_map-cons four_bytes n ns))
    (then_again (dim_number ds first) (λ x bytes next. then_read (dim_numbers ds false (length ns) bytes next) λ xs last. Ok (x ∷ xs, last)) (four_bytes n) (flat_map four_bytes ns) n (n ∷ ns)
    (number_of_dim ds first n small there may) (made_again (dim_numbers ds false (length ns)) (λ xs. n ∷ xs) (flat_map four_bytes ns) ns others))
