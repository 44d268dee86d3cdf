-- How many bytes a header's parts have.
use Rattle.std.proofs.Common.{◌≡◌, ℕ, ◌+◌, ◌*◌, ◌-◌, ◌^◌, ◌<◌, min, true, false, cond, eqb, List, [], ◌∷◌, length, take, get_or, arith, refl, sym, ap, ◌∙◌, length-append}
use Rattle.std.specs.List.{flat_map}
use Rattle.std.proofs.lemmas.List.Concat.{length-flat_map}
use Rattle.std.proofs.lemmas.List.Sums.{fold_more}
use Rattle.wf_model.specs.declared.header.Header.{Header}
use Rattle.wf_model.specs.declared.header.Var.{Var}
use Rattle.wf_model.specs.Bytes.{four_bytes, eight_bytes, name_bytes, att_bytes, dim_bytes, var_bytes, begin_bytes, list_bytes, header_bytes}
use Rattle.wf_cdf.specs.Capped.{capped}
use Rattle.wf_cdf.proofs.CappedSums.{capped_add, capped_add_right}

-- a list's tag and count have eight bytes
pub length_list_bytes : {A : Type 0} (tag : ℕ) (each : A → List ℕ) (xs : List A) →
    length (list_bytes tag each xs) ≡ 8 + length (flat_map each xs)
length_list_bytes tag each [] = refl
length_list_bytes tag each (x ∷ xs) = omega arith

-- one more item
length_items_more : {A : Type 0} (each : A → List ℕ) (xs : List A) (i : ℕ) (x : A) → i < length xs →
    length (flat_map each (take (i + 1) xs)) ≡ length (flat_map each (take i xs)) + length (each (get_or xs i x))
length_items_more each xs i x h =
    length-flat_map each (take (i + 1) xs) ∙ fold_more (λ a y. a + length (each y)) 0 xs i x h
    ∙ ap (λ n. n + length (each (get_or xs i x))) (sym (length-flat_map each (take i xs)))

-- the same, saturating, with an item whose length is exact
pub capped_items_more : {A : Type 0} (each : A → List ℕ) (xs : List A) (i total n : ℕ) (x : A) → i < length xs →
    x ≡ get_or xs i x → n ≡ length (each x) → total ≡ capped (8 + length (flat_map each (take i xs))) →
    min (total + n) (2 ^ 128 - 1) ≡ capped (8 + length (flat_map each (take (i + 1) xs)))
capped_items_more each xs i total n x h read exact before =
    ap (λ a. min (a + n) (2 ^ 128 - 1)) before ∙ capped_add_right (8 + length (flat_map each (take i xs))) n
    ∙ ap capped
    (let more : length (flat_map each (take (i + 1) xs)) ≡ length (flat_map each (take i xs)) + length (each (get_or xs i x)) = length_items_more each xs i x h in
    let same : length (each x) ≡ length (each (get_or xs i x)) = ap (λ y. length (each y)) read in
    omega arith)

-- and with one whose length is capped
pub capped_items_more_capped : {A : Type 0} (each : A → List ℕ) (xs : List A) (i total n : ℕ) (x : A) → i < length xs →
    x ≡ get_or xs i x → n ≡ capped (length (each x)) → total ≡ capped (8 + length (flat_map each (take i xs))) →
    min (total + n) (2 ^ 128 - 1) ≡ capped (8 + length (flat_map each (take (i + 1) xs)))
capped_items_more_capped each xs i total n x h read exact before =
    ap (λ a. min (a + n) (2 ^ 128 - 1)) before
    ∙ ap (λ a. min (capped (8 + length (flat_map each (take i xs))) + a) (2 ^ 128 - 1)) exact
    ∙ capped_add (8 + length (flat_map each (take i xs))) (length (each x))
    ∙ ap capped
    (let more : length (flat_map each (take (i + 1) xs)) ≡ length (flat_map each (take i xs)) + length (each (get_or xs i x)) = length_items_more each xs i x h in
    let same : length (each x) ≡ length (each (get_or xs i x)) = ap (λ y. length (each y)) read in
    omega arith)

-- numbers of four bytes
length_words : (ns : List ℕ) → length (flat_map four_bytes ns) ≡ 4 * length ns
length_words [] = refl
length_words (n ∷ ns) = omega (arith, length_words ns)

length_begin_bytes : (version begin : ℕ) → length (begin_bytes version begin) ≡ cond (eqb version 1) 4 8
length_begin_bytes version begin =
    elim (eqb version 1) as (λ b. length (cond b (four_bytes begin) (eight_bytes begin)) ≡ cond b 4 8) [ true ↦ refl | false ↦ refl ]

-- a variable's parts
pub length_var_bytes : (version : ℕ) (v : Var) →
    length (var_bytes version v) ≡ length (name_bytes v.name) + (4 + 4 * length v.dims) + (8 + cond (eqb version 1) 4 8) + length (list_bytes 12 att_bytes v.atts)
length_var_bytes version v = simp length-append (omega (arith, length_words v.dims, length_begin_bytes version v.begin))

-- a header's parts
pub length_header_bytes : (h : Header) →
    length (header_bytes h) ≡ length (list_bytes 10 dim_bytes h.dims) + length (list_bytes 12 att_bytes h.atts) + length (list_bytes 11 (var_bytes h.version) h.vars) + 8
unfolding header_bytes
length_header_bytes h = simp length-append (omega arith)
