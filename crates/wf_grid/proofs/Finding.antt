-- The first of a list that passes a test, by its place, and of lists one behind another.
use Rattle.std.proofs.Common.{◌≡◌, ℕ, zero, suc, ◌+◌, ◌<◌, ◌≤◌, Bool, true, false, cond, List, [], ◌∷◌, ◌++◌, length, get_or, refl, ap, ◌∙◌, arith, Some, None}
use Rattle.std.specs.Prelude.{find, flat_map, nat_eq}
use Rattle.std.specs.List.{range_with_len}

module _ {X : Type 0} (p : X → Bool) where
  -- one that does not pass is left out
  skips : (x : X) (xs : List X) → p x ≡ false → find p (x ∷ xs) ≡ find p xs
  skips x xs e = ap (λ b. cond b (Some x) (find p xs)) e

  -- one that passes is the first
  takes : (x : X) (xs : List X) → p x ≡ true → find p (x ∷ xs) ≡ Some x
  takes x xs e = ap (λ b. cond b (Some x) (find p xs)) e

  -- none passes
  pub find-none : (d : X) (xs : List X) → ((q : ℕ) → q < length xs → p (get_or xs q d) ≡ false) → find p xs ≡ None
  find-none d [] h = refl
  find-none d (x ∷ xs) h = skips x xs (h 0 (omega arith)) ∙ find-none d xs (λ q l. h (suc q) (omega (arith, l)))

  -- none before this one passes
  pub find-at : (d : X) (xs : List X) (n : ℕ) → n < length xs → ((q : ℕ) → q < n → p (get_or xs q d) ≡ false) → p (get_or xs n d) ≡ true → find p xs ≡ Some (get_or xs n d)
  find-at d [] n l h t = absurd (omega (arith, l))
  find-at d (x ∷ xs) zero l h t = takes x xs t
  find-at d (x ∷ xs) (suc n) l h t = skips x xs (h 0 (omega arith)) ∙ find-at d xs n (omega (arith, l)) (λ q k. h (suc q) (omega (arith, k))) t

  -- behind a list in which none passes
  find-behind : (xs ys : List X) → find p xs ≡ None → find p (xs ++ ys) ≡ find p ys
  find-behind [] ys e = refl
  find-behind (x ∷ xs) ys e =
      (elim (p x) as (λ b. p x ≡ b → cond b (Some x) (find p xs) ≡ None → cond (p x) (Some x) (find p (xs ++ ys)) ≡ find p ys) [
        | true ↦ λ is u. cc
        | false ↦ λ is u. ap (λ b. cond b (Some x) (find p (xs ++ ys))) is ∙ find-behind xs ys u
      ]) refl e

  -- before a list, where none passes there
  find-before : (xs ys : List X) → find p ys ≡ None → find p (xs ++ ys) ≡ find p xs
  find-before [] ys e = e
  find-before (x ∷ xs) ys e = ap (cond (p x) (Some x)) (find-before xs ys e)

  module _ (S : ℕ → List X) where
    find-rest : (a n : ℕ) → ((f : ℕ) → a ≤ f → find p (S f) ≡ None) → find p (flat_map S (range_with_len a n)) ≡ None
    find-rest a zero h = refl
    find-rest a (suc n) h = find-behind (S a) (flat_map S (range_with_len (a + 1) n)) (h a (omega arith)) ∙ find-rest (a + 1) n (λ f l. h f (omega arith))

    -- of the lists of many, those of one alone have some that pass
    pub find-one : (w a n : ℕ) → a ≤ w → w < a + n → ((f : ℕ) → (f ≡ w → ⊥) → find p (S f) ≡ None) → find p (flat_map S (range_with_len a n)) ≡ find p (S w)
    find-one w a zero low high h = absurd (omega (arith, low, high))
    find-one w a (suc n) low high h =
        (elim (nat_eq a w) as (λ b. nat_eq a w ≡ b → find p (S a ++ flat_map S (range_with_len (a + 1) n)) ≡ find p (S w)) [
          | true ↦ λ e. let is : a ≡ w = same a w e in
              find-before (S a) (flat_map S (range_with_len (a + 1) n)) (find-rest (a + 1) n (λ f l. h f (λ q. above a w f is l q))) ∙ ap (λ (f : ℕ). find p (S f)) is
          | false ↦ λ e. let is_not : a ≡ w → ⊥ = differ a w e in
              find-behind (S a) (flat_map S (range_with_len (a + 1) n)) (h a is_not) ∙ find-one w (a + 1) n (below a w low is_not) (omega (arith, high)) h
        ]) refl
      where
        same : (a w : ℕ) → nat_eq a w ≡ true → a ≡ w
        same a w e = grind arith

        differ : (a w : ℕ) → nat_eq a w ≡ false → a ≡ w → ⊥
        differ a w e q = grind arith

        above : (a w f : ℕ) → a ≡ w → a + 1 ≤ f → f ≡ w → ⊥
        above a w f e l q = omega arith

        below : (a w : ℕ) → a ≤ w → (a ≡ w → ⊥) → a + 1 ≤ w
        below a w l n = grind arith
