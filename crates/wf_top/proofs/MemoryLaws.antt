-- The memory of a patch, counted and summed.
use Rattle.std.proofs.Common.{◌≡◌, ◌⊎◌, ℕ, ◌+◌, ◌-◌, ◌*◌, ◌<◌, ◌≤◌, true, false, nat_lt, nat_le, ◌&&◌, List, [], ◌∷◌, ◌++◌, length, map, ℤ, unsigned_abs, sum_by, refl, sym, ap, ◌∙◌, subst, arith, inl, inr, length-append}
use Rattle.std.specs.List.{range_with_len}
use Rattle.std.proofs.lemmas.Bool.{cases_lt}
use Rattle.std.proofs.lemmas.Bool.Decides.{nat_tests}
use Rattle.std.proofs.lemmas.List.Sums.{sum_by-append}
use Rattle.std.proofs.lemmas.List.FromFn.{length-map-range_with_len}
use Rattle.wf_model.specs.declared.demo.Demo.{Demo}
use Rattle.wf_model.specs.Demo.{demo_value, column_sum, if_column, held_columns, first_column, end_column}
use Rattle.wf_top.specs.declared.patch.Patch.{Patch}
use Rattle.wf_top.specs.Cells.{size_at, AreSmall}
use Rattle.wf_top.specs.Memories.{Hold, Holds, IsPatch}
use Rattle.wf_top.proofs.ValueLaws.{value_small}
use Rattle.wf_top.proofs.RangeLaws.{sum_split, sum_same, sum_map}

-- a column of the memory after n steps is small
column_small : (nx ny n a b : ℕ) (patch : Patch) → Hold (demo_value nx ny n) ny patch a b → (r c : ℕ) → r < ny → a ≤ c → c < b → size_at patch.values.items patch.width r c < 100
column_small nx ny n a b patch h r c hr low high = subst (λ (z : ℤ). unsigned_abs z < 100) (sym (h r c hr low high)) (value_small nx ny n (r + 1) (patch.from + c + 1))

-- all numbers of a memory are small
pub memory_small : (nx ny n m k : ℕ) (patch : Patch) → Holds ny (demo_value nx ny n) (demo_value nx ny m) (demo_value nx ny k) patch → AreSmall patch.values.items patch.width ny
memory_small nx ny n m k patch h r c hr hc =
    elim (cases_lt c patch.west) [
      | inl before ↦ column_small nx ny m 0 patch.west patch h.before r c hr (omega arith) before
      | inr past ↦ elim (cases_lt c (patch.west + patch.own)) [
        | inl inside ↦ column_small nx ny n patch.west (patch.west + patch.own) patch h.inside r c hr past inside
        | inr behind ↦ column_small nx ny k (patch.west + patch.own) patch.width patch h.behind r c hr behind hc
      ]
    ]

-- the sum of a column of the memory
pub of_column : ℕ → Patch → ℕ → ℕ
of_column ny patch c = sum_by (λ r. size_at patch.values.items patch.width r c) (range_with_len 0 ny)

-- what a column of the memory sums to
column_is : (nx ny n a b : ℕ) (patch : Patch) → Hold (demo_value nx ny n) ny patch a b → (c i : ℕ) → a ≤ c → c < b → patch.from + c + 1 ≡ i → of_column ny patch c ≡ column_sum nx ny n i
unfolding of_column
column_is nx ny n a b patch h c i low high e =
    sum_same (λ r. size_at patch.values.items patch.width r c) (λ j. demo_value nx ny n j i) 0 1 ny
    (λ k hk.
    let row : 0 + k ≡ k = omega arith in
    let from_one : k + 1 ≡ 1 + k = omega arith in
    ap (λ r. size_at patch.values.items patch.width r c) row ∙ ap unsigned_abs (h k c hk low high) ∙ ap (λ x. demo_value nx ny n (k + 1) x) e ∙ ap (λ j. demo_value nx ny n j i) from_one)

-- a column that the domain has, and one that it has not
if_there : (nx n i : ℕ) → 0 < i → i ≤ nx → if_column nx n i ≡ (n, i) ∷ []
if_there nx n i p q = let e : nat_lt 0 i && nat_le i nx ≡ true = grind (arith, nat_tests) in rw e refl

if_not : (nx n i : ℕ) → (i ≡ 0) ⊎ (nx < i) → if_column nx n i ≡ []
if_not nx n i (inl z) = let e : nat_lt 0 i && nat_le i nx ≡ false = grind (arith, nat_tests) in rw e refl
if_not nx n i (inr past) = let e : nat_lt 0 i && nat_le i nx ≡ false = grind (arith, nat_tests) in rw e refl

-- the sum of one or no column
sum_there : (f : ℕ × ℕ → ℕ) (g : ℕ → ℕ) (n i a k : ℕ) (xs : List (ℕ × ℕ)) → ((k ≡ 1) × (xs ≡ (n, i) ∷ [])) ⊎ ((k ≡ 0) × (xs ≡ [])) → (k ≡ 1 → g a ≡ f (n, i)) → sum_by g (range_with_len a k) ≡ sum_by f xs
sum_there f g n i a k xs (inl h) same =
    let one : g a ≡ f (n, i) = same h.0 in
    ap (λ m. sum_by g (range_with_len a m)) h.0 ∙ omega (arith, one) ∙ ap (sum_by f) (sym h.1)
sum_there f g n i a k xs (inr h) same = ap (λ m. sum_by g (range_with_len a m)) h.0 ∙ ap (sum_by f) (sym h.1)

length_there : (n i k : ℕ) (xs : List (ℕ × ℕ)) → ((k ≡ 1) × (xs ≡ (n, i) ∷ [])) ⊎ ((k ≡ 0) × (xs ≡ [])) → length xs ≡ k
length_there n i k xs (inl h) = ap length h.1 ∙ sym h.0
length_there n i k xs (inr h) = ap length h.1 ∙ sym h.0

three_same : (a b c x y z : ℕ) → a ≡ x → b ≡ y → c ≡ z → a + (b + c) ≡ x + y + z
three_same a b c x y z p q r = omega arith

-- the columns that a patch holds, in its three parts
record Parts (d : Demo) (p east : ℕ) (patch : Patch) : Type 0 where
  width : patch.width ≡ patch.west + (patch.own + east)
  before : ((patch.west ≡ 1) × (if_column d.nx (d.steps - 1) (first_column d.nx d.px p - 1) ≡ (d.steps - 1, patch.from + 0 + 1) ∷ []))
      ⊎ ((patch.west ≡ 0) × (if_column d.nx (d.steps - 1) (first_column d.nx d.px p - 1) ≡ []))
  behind : ((east ≡ 1) × (if_column d.nx (d.steps - 1) (end_column d.nx d.px p) ≡ (d.steps - 1, patch.from + (patch.west + patch.own) + 1) ∷ []))
      ⊎ ((east ≡ 0) × (if_column d.nx (d.steps - 1) (end_column d.nx d.px p) ≡ []))
  first : first_column d.nx d.px p ≡ patch.from + patch.west + 1
  count : end_column d.nx d.px p - first_column d.nx d.px p ≡ patch.own

parts_west : (d : Demo) (p : ℕ) (patch : Patch) → IsPatch d.nx d.ny d.px p patch
    → ((patch.west ≡ 1) × (if_column d.nx (d.steps - 1) (first_column d.nx d.px p - 1) ≡ (d.steps - 1, patch.from + 0 + 1) ∷ []))
    ⊎ ((patch.west ≡ 0) × (if_column d.nx (d.steps - 1) (first_column d.nx d.px p - 1) ≡ []))
parts_west d p patch is =
    let first = first_column d.nx d.px p - 1 in
    elim (cases_lt 0 first) [
      | inl some ↦
          let e : first ≡ patch.from + 0 + 1 = omega (arith, is.block.from, is.block.west, some) in
          inl (omega (arith, is.block.from, is.block.west, some), if_there d.nx (d.steps - 1) first some (omega (arith, is.block.some, is.block.within)) ∙ ap (λ i. (d.steps - 1, i) ∷ []) e)
      | inr none ↦ inr (omega (arith, is.block.from, is.block.west, none), if_not d.nx (d.steps - 1) first (inl (omega arith)))
    ]

parts_east : (d : Demo) (p : ℕ) (patch : Patch) → IsPatch d.nx d.ny d.px p patch
    → ((patch.width - (patch.west + patch.own) ≡ 1) × (if_column d.nx (d.steps - 1) (end_column d.nx d.px p) ≡ (d.steps - 1, patch.from + (patch.west + patch.own) + 1) ∷ []))
    ⊎ ((patch.width - (patch.west + patch.own) ≡ 0) × (if_column d.nx (d.steps - 1) (end_column d.nx d.px p) ≡ []))
parts_east d p patch is =
    let end = end_column d.nx d.px p in
    elim (cases_lt d.nx end) [
      | inl past ↦ inr (omega (arith, is.block.from, is.block.west, is.block.own, is.block.width, past), if_not d.nx (d.steps - 1) end (inr past))
      | inr there ↦
          let e : end ≡ patch.from + (patch.west + patch.own) + 1 = omega (arith, is.block.west, is.block.own) in
          inl (omega (arith, is.block.from, is.block.west, is.block.own, is.block.width, there), if_there d.nx (d.steps - 1) end (omega arith) there ∙ ap (λ i. (d.steps - 1, i) ∷ []) e)
    ]

parts_of : (d : Demo) (p : ℕ) (patch : Patch) → IsPatch d.nx d.ny d.px p patch → Parts d p (patch.width - (patch.west + patch.own)) patch
parts_of d p patch is = record {
  width = omega (arith, is.block.from, is.block.west, is.block.own, is.block.width, is.block.within);
  before = parts_west d p patch is;
  behind = parts_east d p patch is;
  first = omega (arith, is.block.west);
  count = omega (arith, is.block.own);
}

-- the cells of a patch
pub cells_are : (d : Demo) (p : ℕ) (patch : Patch) → IsPatch d.nx d.ny d.px p patch → patch.width * d.ny ≡ length (held_columns d p) * d.ny
cells_are d p patch is =
    let parts = parts_of d p patch is in
    let first = first_column d.nx d.px p in
    let end = end_column d.nx d.px p in
    let before = if_column d.nx (d.steps - 1) (first - 1) in
    let inside : List (ℕ × ℕ) = map (λ i. (d.steps, i)) (range_with_len first (end - first)) in
    let behind = if_column d.nx (d.steps - 1) end in
    let b : length before ≡ patch.west = length_there (d.steps - 1) (patch.from + 0 + 1) patch.west before parts.before in
    let c : length inside ≡ patch.own = length-map-range_with_len (λ i. (d.steps, i)) first (end - first) ∙ parts.count in
    let e : length behind ≡ patch.width - (patch.west + patch.own) = length_there (d.steps - 1) (patch.from + (patch.west + patch.own) + 1) (patch.width - (patch.west + patch.own)) behind parts.behind in
    let all : patch.width ≡ length (before ++ inside ++ behind) = omega (arith, length-append (before ++ inside) behind, length-append before inside, b, c, e, parts.width) in
    ap (λ n. n * d.ny) all

-- the sum of a patch's memory
pub sum_is : (d : Demo) (p : ℕ) (patch : Patch) → IsPatch d.nx d.ny d.px p patch
    → Holds d.ny (demo_value d.nx d.ny d.steps) (demo_value d.nx d.ny (d.steps - 1)) (demo_value d.nx d.ny (d.steps - 1)) patch
    → sum_by (λ c. sum_by (λ r. size_at patch.values.items patch.width r c) (range_with_len 0 d.ny)) (range_with_len 0 patch.width) ≡ sum_by (λ c. column_sum d.nx d.ny c.0 c.1) (held_columns d p)
unfolding of_column
sum_is d p patch is h =
    let parts = parts_of d p patch is in
    let east = patch.width - (patch.west + patch.own) in
    let g : ℕ → ℕ = of_column d.ny patch in
    let f : ℕ × ℕ → ℕ = λ c. column_sum d.nx d.ny c.0 c.1 in
    let first = first_column d.nx d.px p in
    let end = end_column d.nx d.px p in
    let before = if_column d.nx (d.steps - 1) (first - 1) in
    let inside : List (ℕ × ℕ) = map (λ i. (d.steps, i)) (range_with_len first (end - first)) in
    let behind = if_column d.nx (d.steps - 1) end in
    let b : sum_by g (range_with_len 0 patch.west) ≡ sum_by f before =
    sum_there f g (d.steps - 1) (patch.from + 0 + 1) 0 patch.west before parts.before (λ one. column_is d.nx d.ny (d.steps - 1) 0 patch.west patch h.before 0 (patch.from + 0 + 1) (omega arith) (omega arith) refl) in
    let c : sum_by g (range_with_len patch.west patch.own) ≡ sum_by f inside =
    sum_same g (λ i. f (d.steps, i)) patch.west first patch.own (λ k hk. column_is d.nx d.ny d.steps patch.west (patch.west + patch.own) patch h.inside (patch.west + k) (first + k) (omega arith) (omega (arith, hk)) (omega (arith, parts.first)))
    ∙ ap (λ n. sum_by (λ i. f (d.steps, i)) (range_with_len first n)) (sym parts.count) ∙ sym (sum_map f (λ i. (d.steps, i)) (range_with_len first (end - first))) in
    let e : sum_by g (range_with_len (patch.west + patch.own) east) ≡ sum_by f behind =
    sum_there f g (d.steps - 1) (patch.from + (patch.west + patch.own) + 1) (patch.west + patch.own) east behind parts.behind
    (λ one. column_is d.nx d.ny (d.steps - 1) (patch.west + patch.own) patch.width patch h.behind (patch.west + patch.own) (patch.from + (patch.west + patch.own) + 1) (omega arith) (omega (arith, one)) refl) in
    let start : 0 + patch.west ≡ patch.west = omega arith in
    ap (λ n. sum_by g (range_with_len 0 n)) parts.width
    ∙ sum_split g 0 patch.west (patch.own + east)
    ∙ ap (λ k. sum_by g (range_with_len 0 patch.west) + sum_by g (range_with_len k (patch.own + east))) start
    ∙ ap (λ k. sum_by g (range_with_len 0 patch.west) + k) (sum_split g patch.west patch.own east)
    ∙ three_same _ _ _ _ _ _ b c e
    ∙ ap (λ k. k + sum_by f behind) (sym (sum_by-append f before inside))
    ∙ sym (sum_by-append f (before ++ inside) behind)
