-- The sizes of variables, one more at a time.
use Rattle.std.proofs.Common.{◌≡◌, ℕ, suc, zero, ◌+◌, ◌-◌, ◌*◌, ◌^◌, ◌<◌, ◌≤◌, min, max, Bool, true, false, cond, ltb, eqb, List, [], ◌∷◌, ◌++◌, length, take, drop, get_or, arith, refl, sym, ap, ◌∙◌}
use Rattle.std.specs.List.{fold, filter, sum_by, All}
use Rattle.std.proofs.lemmas.List.{get_or_default, take-append-drop}
use Rattle.std.proofs.lemmas.Bool.{ne_eqb}
use Rattle.std.proofs.lemmas.List.Sums.{fold_more, sum_by-append}
use Rattle.std.proofs.lemmas.List.Folds.{fold-map}
use Rattle.std.proofs.lemmas.List.Elements.{filter_more, filter-append, All-tail}
use Rattle.std.proofs.lemmas.List.Filters.{length-filter_more}
use Rattle.wf_model.specs.declared.header.Header.{Header}
use Rattle.wf_model.specs.declared.header.Dim.{Dim}
use Rattle.wf_model.specs.declared.header.Var.{Var}
use Rattle.wf_model.specs.Bytes.{header_bytes}
use Rattle.wf_model.specs.Sizes.{type_size, dim_of, rest_of, lengths, product, slab_dims, slab_size, padded_size, rounded, is_narrow, size_of_slabs, record_vars, fixed_size, record_size, file_size}
use Rattle.wf_cdf.specs.Capped.{capped}
use Rattle.wf_cdf.proofs.CappedSums.{capped_mul, capped_mul_left, capped_add}

-- the list after its first item
pub rest_of_drop : (xs : List ℕ) → rest_of xs ≡ drop 1 xs
rest_of_drop [] = refl
rest_of_drop (x ∷ xs) = refl

pub All_rest_of : (P : ℕ → Type 0) (xs : List ℕ) → All P xs → All P (rest_of xs)
All_rest_of P [] all = all
All_rest_of P (x ∷ xs) all = All-tail P x xs all

-- a product of lengths as one fold
product_fold : (dims : List Dim) (ns : List ℕ) → product (lengths dims ns) ≡ fold (λ a n. a * (dim_of dims n).len) 1 ns
product_fold dims ns = fold-map (λ a n. a * n) (λ n. (dim_of dims n).len) 1 ns

-- a product of lengths with one more
product_more : (dims : List Dim) (ns : List ℕ) (i : ℕ) → i < length ns →
    product (lengths dims (take (i + 1) ns)) ≡ product (lengths dims (take i ns)) * (dim_of dims (get_or ns i 0)).len
product_more dims ns i h =
    product_fold dims (take (i + 1) ns) ∙ fold_more (λ a n. a * (dim_of dims n).len) 1 ns i 0 h
    ∙ ap (λ a. a * (dim_of dims (get_or ns i 0)).len) (sym (product_fold dims (take i ns)))

-- the same, saturating, with the dimension as it is read
pub capped_product_more : (dims : List Dim) (ns : List ℕ) (i p : ℕ) (d : Dim) → i < length ns → get_or ns i 0 < length dims →
    d ≡ get_or dims (get_or ns i 0) d → p ≡ capped (product (lengths dims (take i ns))) →
    min (p * d.len) (2 ^ 128 - 1) ≡ capped (product (lengths dims (take (i + 1) ns)))
capped_product_more dims ns i p d h k e q =
    let read : d ≡ dim_of dims (get_or ns i 0) = e ∙ get_or_default dims (get_or ns i 0) d (record { name = []; len = 1 }) k in
    ap (λ a. min (a * d.len) (2 ^ 128 - 1)) q ∙ capped_mul (product (lengths dims (take i ns))) d.len
    ∙ ap capped (ap (λ a. product (lengths dims (take i ns)) * a.len) read ∙ sym (product_more dims ns i h))

-- a sum over what passes a test, one more at a time
pub sum_of_passing_more : {X : Type 0} (p : X → Bool) (f : X → ℕ) (xs : List X) (i : ℕ) (d : X) → i < length xs →
    sum_by f (filter p (take (i + 1) xs)) ≡ sum_by f (filter p (take i xs)) + cond (p (get_or xs i d)) (f (get_or xs i d)) 0
sum_of_passing_more p f xs i d h =
    ap (sum_by f) (filter_more p xs i d h)
    ∙ sum_by-append f (filter p (take i xs)) (cond (p (get_or xs i d)) (get_or xs i d ∷ []) [])
    ∙ ap (λ n. sum_by f (filter p (take i xs)) + n)
    (elim (p (get_or xs i d)) as (λ b. sum_by f (cond b (get_or xs i d ∷ []) []) ≡ cond b (f (get_or xs i d)) 0) [ true ↦ omega arith | false ↦ refl ])

-- the same where it fails the test
pub sum_of_passing_kept : {X : Type 0} (p : X → Bool) (f : X → ℕ) (xs : List X) (i : ℕ) (x : X) → i < length xs → x ≡ get_or xs i x →
    p x ≡ false → sum_by f (filter p (take (i + 1) xs)) ≡ sum_by f (filter p (take i xs))
sum_of_passing_kept p f xs i x h read fails =
    let more : sum_by f (filter p (take (i + 1) xs)) ≡ sum_by f (filter p (take i xs)) + cond (p (get_or xs i x)) (f (get_or xs i x)) 0 = sum_of_passing_more p f xs i x h in
    let none : cond (p (get_or xs i x)) (f (get_or xs i x)) 0 ≡ 0 = ap (λ y. cond (p y) (f y) 0) (sym read) ∙ ap (λ b. cond b (f x) 0) fails in
    omega arith

-- and where it passes
pub sum_of_passing_added : {X : Type 0} (p : X → Bool) (f : X → ℕ) (xs : List X) (i : ℕ) (x : X) → i < length xs → x ≡ get_or xs i x →
    p x ≡ true → sum_by f (filter p (take (i + 1) xs)) ≡ sum_by f (filter p (take i xs)) + f x
sum_of_passing_added p f xs i x h read passes =
    let more : sum_by f (filter p (take (i + 1) xs)) ≡ sum_by f (filter p (take i xs)) + cond (p (get_or xs i x)) (f (get_or xs i x)) 0 = sum_of_passing_more p f xs i x h in
    let one : cond (p (get_or xs i x)) (f (get_or xs i x)) 0 ≡ f x = ap (λ y. cond (p y) (f y) 0) (sym read) ∙ ap (λ b. cond b (f x) 0) passes in
    omega arith

-- the first of a list have no more than all
pub sum_of_passing_take : {X : Type 0} (p : X → Bool) (f : X → ℕ) (xs : List X) (i : ℕ) →
    sum_by f (filter p (take i xs)) ≤ sum_by f (filter p xs)
sum_of_passing_take p f xs i =
    let parts : sum_by f (filter p (take i xs ++ drop i xs)) ≡ sum_by f (filter p (take i xs)) + sum_by f (filter p (drop i xs)) =
    ap (sum_by f) (filter-append p (take i xs) (drop i xs)) ∙ sum_by-append f (filter p (take i xs)) (filter p (drop i xs)) in
    let whole : sum_by f (filter p (take i xs ++ drop i xs)) ≡ sum_by f (filter p xs) = ap (λ ys. sum_by f (filter p ys)) (take-append-drop i xs) in
    omega arith

-- a saturating sum stays where one more fails the test
pub sum_kept : {X : Type 0} (p : X → Bool) (f : X → ℕ) (xs : List X) (i total : ℕ) (x : X) → i < length xs → x ≡ get_or xs i x →
    p x ≡ false → total ≡ capped (sum_by f (filter p (take i xs))) → total ≡ capped (sum_by f (filter p (take (i + 1) xs)))
sum_kept p f xs i total x h read fails before = before ∙ ap capped (sym (sum_of_passing_kept p f xs i x h read fails))

-- and has its number where one more passes
pub sum_added : {X : Type 0} (p : X → Bool) (f : X → ℕ) (xs : List X) (i total n : ℕ) (x : X) → i < length xs → x ≡ get_or xs i x →
    p x ≡ true → n ≡ capped (f x) → total ≡ capped (sum_by f (filter p (take i xs))) →
    min (total + n) (2 ^ 128 - 1) ≡ capped (sum_by f (filter p (take (i + 1) xs)))
sum_added p f xs i total n x h read passes size before =
    ap (λ a. min (a + n) (2 ^ 128 - 1)) before ∙ ap (λ a. min (capped (sum_by f (filter p (take i xs))) + a) (2 ^ 128 - 1)) size
    ∙ capped_add (sum_by f (filter p (take i xs))) (f x) ∙ ap capped (sym (sum_of_passing_added p f xs i x h read passes))

-- how many pass, where one more passes or fails
pub count_more : {X : Type 0} (p : X → Bool) (xs : List X) (i : ℕ) (x : X) (b : Bool) → i < length xs → x ≡ get_or xs i x →
    p x ≡ b → length (filter p (take (i + 1) xs)) ≡ length (filter p (take i xs)) + cond b 1 0
count_more p xs i x b h read e =
    length-filter_more p xs i x h ∙ ap (λ y. length (filter p (take i xs)) + cond (p y) 1 0) (sym read)
    ∙ ap (λ c. length (filter p (take i xs)) + cond c 1 0) e

-- a type of four bytes or more has a multiple of four
wide : (kind : ℕ) → ltb (type_size kind) 4 ≡ false → (m : ℕ) → rounded (m * type_size kind) ≡ m * type_size kind
wide zero h m = omega arith
wide (suc zero) h m = cc
wide (suc (suc zero)) h m = cc
wide (suc (suc (suc zero))) h m = cc
wide (suc (suc (suc (suc zero)))) h m = omega arith
wide (suc (suc (suc (suc (suc zero))))) h m = omega arith
wide (suc (suc (suc (suc (suc (suc zero)))))) h m = omega arith
wide (suc (suc (suc (suc (suc (suc (suc kind))))))) h m = omega arith

-- so a lone variable has its size without padding, whatever its type
lone : (dims : List Dim) (v : Var) (narrow : Bool) → is_narrow v ≡ narrow →
    cond narrow (slab_size dims v) (padded_size dims v) ≡ 0 + slab_size dims v
lone dims v true e = omega arith
lone dims v false e = omega (arith, wide v.kind e (product (lengths dims (slab_dims dims v))))

-- one record by the number of its variables: a lone one is not padded
pub size_of_slabs_by_count : (dims : List Dim) (vs : List Var) →
    size_of_slabs dims vs ≡ cond (eqb (length vs) 1) (sum_by (slab_size dims) vs) (sum_by (padded_size dims) vs)
size_of_slabs_by_count dims [] = refl
size_of_slabs_by_count dims (v ∷ []) = lone dims v (is_narrow v) refl
size_of_slabs_by_count dims (v ∷ w ∷ vs) =
    let many : eqb (suc (suc (length vs))) 1 ≡ false = ne_eqb (suc (suc (length vs))) 1 (λ e. omega arith) in
    sym (ap (λ b. cond b (sum_by (slab_size dims) (v ∷ w ∷ vs)) (sum_by (padded_size dims) (v ∷ w ∷ vs))) many)

-- a choice of capped numbers
capped_choice : (b : Bool) (m n : ℕ) → cond b (capped m) (capped n) ≡ capped (cond b m n)
capped_choice true m n = refl
capped_choice false m n = refl

-- one record's size from its sums
pub capped_record_size : (h : Header) (count padded unpadded : ℕ) → count ≡ length (record_vars h) →
    padded ≡ capped (sum_by (padded_size h.dims) (record_vars h)) → unpadded ≡ capped (sum_by (slab_size h.dims) (record_vars h)) →
    cond (eqb count 1) unpadded padded ≡ capped (record_size h)
capped_record_size h count padded unpadded e p u =
    ap (λ n. cond (eqb n 1) unpadded padded) e ∙ ap (λ n. cond (eqb (length (record_vars h)) 1) n padded) u
    ∙ ap (λ n. cond (eqb (length (record_vars h)) 1) (capped (sum_by (slab_size h.dims) (record_vars h))) n) p
    ∙ capped_choice (eqb (length (record_vars h)) 1) (sum_by (slab_size h.dims) (record_vars h)) (sum_by (padded_size h.dims) (record_vars h))
    ∙ ap capped (sym (size_of_slabs_by_count h.dims (record_vars h)))

-- a file's size from its parts
pub capped_file_size : (h : Header) (records before fixed one : ℕ) → before ≡ capped (length (header_bytes h)) →
    fixed ≡ capped (fixed_size h) → one ≡ capped (record_size h) →
    min (min (before + fixed) (2 ^ 128 - 1) + min (max records 1 * one) (2 ^ 128 - 1)) (2 ^ 128 - 1) ≡ capped (file_size h records)
capped_file_size h records before fixed one b f o =
    ap (λ n. min (min (n + fixed) (2 ^ 128 - 1) + min (max records 1 * one) (2 ^ 128 - 1)) (2 ^ 128 - 1)) b
    ∙ ap (λ n. min (min (capped (length (header_bytes h)) + n) (2 ^ 128 - 1) + min (max records 1 * one) (2 ^ 128 - 1)) (2 ^ 128 - 1)) f
    ∙ ap (λ n. min (min (capped (length (header_bytes h)) + capped (fixed_size h)) (2 ^ 128 - 1) + min (max records 1 * n) (2 ^ 128 - 1)) (2 ^ 128 - 1)) o
    ∙ ap (λ n. min (n + min (max records 1 * capped (record_size h)) (2 ^ 128 - 1)) (2 ^ 128 - 1)) (capped_add (length (header_bytes h)) (fixed_size h))
    ∙ ap (λ n. min (capped (length (header_bytes h) + fixed_size h) + n) (2 ^ 128 - 1)) (capped_mul_left (max records 1) (record_size h))
    ∙ capped_add (length (header_bytes h) + fixed_size h) (max records 1 * record_size h)
    ∙ ap (λ n. capped (length (header_bytes h) + fixed_size h + n * record_size h)) (let e : max records 1 ≡ max 1 records = omega arith in e)

-- one record of all variables has at most three bytes of padding less
pub padded_slabs_le : (dims : List Dim) (vs : List Var) → sum_by (padded_size dims) vs ≤ size_of_slabs dims vs + 3
padded_slabs_le dims [] = omega arith
padded_slabs_le dims (v ∷ []) =
    elim (is_narrow v) as (λ b. 0 + padded_size dims v ≤ cond b (slab_size dims v) (padded_size dims v) + 3) [ true ↦ omega arith | false ↦ omega arith ]
padded_slabs_le dims (v ∷ w ∷ vs) = omega arith
