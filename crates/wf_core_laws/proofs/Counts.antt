-- How many elements of a list pass a test.
use Rattle.std.proofs.Common.{◌≡◌, inl, inr, ℕ, zero, suc, ◌+◌, ◌<◌, ◌==◌, cond, Bool, true, false, not, List, [], ◌∷◌, ◌++◌, map, refl, ap, sym, ◌∙◌, arith}
use Rattle.std.specs.Prelude.{filter, count_by}
use Rattle.std.specs.List.{list_any, range_with_len}
use Rattle.std.proofs.lemmas.List.Sums.{sum_by-cons, sum_by-append}
use Rattle.std.proofs.lemmas.Bool.Decides.{eqb_tells}
use Rattle.wf_laws.proofs.Bools.{split_bool, and_left, and_right}
use Rattle.wf_core_laws.proofs.Members.{Has, has-filter, or_parts, not_both}

-- how much an element counts
abbrev pub one_if : Bool → ℕ
one_if b = cond b 1 0

-- one element more
pub count-cons : {A : Type 0} (test : A → Bool) (x : A) (xs : List A) → count_by test (x ∷ xs) ≡ one_if (test x) + count_by test xs
count-cons test x xs = sum_by-cons (λ x. one_if (test x)) x xs

-- a list after another
pub count-append : {A : Type 0} (test : A → Bool) (xs ys : List A) → count_by test (xs ++ ys) ≡ count_by test xs + count_by test ys
count-append test xs ys = sum_by-append (λ x. one_if (test x)) xs ys

-- a filter and its rest together have all
pub count-parts : {A : Type 0} (test keep : A → Bool) (xs : List A) → count_by test (filter (λ x. not (keep x)) xs) + count_by test (filter keep xs) ≡ count_by test xs
count-parts test keep [] = refl
count-parts test keep (x ∷ xs) =
    let rest = count-parts test keep xs in
    let here = count-cons test x xs in
    (elim (keep x) as (λ b. count_by test (cond (not b) (x ∷ filter (λ y. not (keep y)) xs) (filter (λ y. not (keep y)) xs)) + count_by test (cond b (x ∷ filter keep xs) (filter keep xs)) ≡ count_by test (x ∷ xs)) [
      | true ↦ omega (arith, rest, here, count-cons test x (filter keep xs))
      | false ↦ omega (arith, rest, here, count-cons test x (filter (λ y. not (keep y)) xs))
    ])

-- none passes
pub count-none : {A : Type 0} (test : A → Bool) (f : ℕ → A) (xs : List ℕ) → ((x : ℕ) → test (f x) ≡ false) → count_by test (map f xs) ≡ 0
count-none test f [] none = refl
count-none test f (x ∷ xs) none =
    let one : one_if (test (f x)) ≡ 0 = ap one_if (none x) in
    omega (arith, count-cons test (f x) (map f xs), one, count-none test f xs none)

-- as many pass as of the numbers that they are made of
pub count-map : {A : Type 0} (test : A → Bool) (f : ℕ → A) (t : ℕ → Bool) (xs : List ℕ) → ((x : ℕ) → test (f x) ≡ t x) → count_by test (map f xs) ≡ count_by t xs
count-map test f t [] same = refl
count-map test f t (x ∷ xs) same =
    let one : one_if (test (f x)) ≡ one_if (t x) = ap one_if (same x) in
    omega (arith, count-cons test (f x) (map f xs), one, count-cons t x xs, count-map test f t xs same)

-- a number that a filter keeps stands there as often as before
count-kept : (keep : ℕ → Bool) (v : ℕ) (xs : List ℕ) → keep v ≡ true → count_by (λ x. x == v) (filter keep xs) ≡ count_by (λ x. x == v) xs
count-kept keep v [] k = refl
count-kept keep v (x ∷ xs) k =
    let rest = count-kept keep v xs k in
    let here = count-cons (λ x. x == v) x xs in
    elim (split_bool (keep x)) [
      | inl on ↦
          let more = count-cons (λ x. x == v) x (filter keep xs) in
          ap (λ (b : Bool). count_by (λ x. x == v) (cond b (x ∷ filter keep xs) (filter keep xs))) on ∙ omega (arith, rest, here, more)
      | inr off ↦ elim (eqb_tells x v) [
        | inl w ↦ absurd (not_both (keep x) (ap keep w.1 ∙ k) off)
        | inr w ↦
            let no_more : one_if (x == v) ≡ 0 = ap one_if w.0 in
            ap (λ (b : Bool). count_by (λ x. x == v) (cond b (x ∷ filter keep xs) (filter keep xs))) off ∙ omega (arith, rest, here, no_more)
      ]
    ]

-- a number stands in a range once
count-past : (v a n : ℕ) → v < a → count_by (λ x. x == v) (range_with_len a n) ≡ 0
count-past v a zero h = refl
count-past v a (suc n) h =
    elim (eqb_tells a v) [
      | inl w ↦ absurd (omega (arith, h, w.1))
      | inr w ↦
          let none : one_if (a == v) ≡ 0 = ap one_if w.0 in
          omega (arith, none, count-cons (λ x. x == v) a (range_with_len (a + 1) n), count-past v (a + 1) n (omega (arith, h)))
    ]

-- a number of a range stands in it once
count-range : (v a n : ℕ) → Has (range_with_len a n) v → count_by (λ x. x == v) (range_with_len a n) ≡ 1
count-range v a zero h = absurd (cc (h))
count-range v a (suc n) h =
    let more = count-cons (λ x. x == v) a (range_with_len (a + 1) n) in
    elim (eqb_tells a v) [
      | inl w ↦
          let one : one_if (a == v) ≡ 1 = ap one_if w.0 in
          omega (arith, one, more, count-past v (a + 1) n (omega (arith, w.1)))
      | inr w ↦
          let none : one_if (a == v) ≡ 0 = ap one_if w.0 in
          let rest : Has (range_with_len (a + 1) n) v = elim (or_parts (a == v) (list_any (λ x. x == v) (range_with_len (a + 1) n)) h) [ inl e ↦ absurd (not_both _ e w.0) | inr e ↦ e ] in
          omega (arith, none, more, count-range v (a + 1) n rest)
    ]

-- and in what a filter keeps of it
pub count-once : (keep : ℕ → Bool) (v a n : ℕ) → Has (filter keep (range_with_len a n)) v → count_by (λ x. x == v) (filter keep (range_with_len a n)) ≡ 1
count-once keep v a n h =
    let both = sym (has-filter keep (range_with_len a n) v) ∙ h in
    count-kept keep v (range_with_len a n) (and_right (list_any (λ x. x == v) (range_with_len a n)) (keep v) both) ∙ count-range v a n (and_left (list_any (λ x. x == v) (range_with_len a n)) (keep v) both)
