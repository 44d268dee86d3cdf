-- How many numbers of a range pass a test.
use Rattle.std.proofs.Common.{◌≡◌, ◌⊎◌, ⊎_elim, inl, inr, ℕ, zero, suc, ◌+◌, ◌-◌, ◌*◌, ◌<◌, ◌≤◌, Bool, true, false, cond, List, [], ◌∷◌, length, refl, sym, ap, ◌∙◌, arith}
use Rattle.std.proofs.Math.Nat.{suc-mul}
use Rattle.std.specs.Prelude.{◌&&◌, ◌||◌, not, nat_lt, nat_le, max, filter}
use Rattle.std.specs.List.{list_all, range_with_len}
use Rattle.wf_model.specs.declared.plan.Plan.{Plan}
use Rattle.wf_model.specs.declared.plan.Item.{Item}
use Rattle.wf_model.specs.declared.plan.Item.TheVariants as item
use Rattle.wf_model.specs.Plans.{domain_of, nx, ny}
use Rattle.wf_laws.proofs.Bools.{or_left, or_right, and_both, differ, less_test, most_test}
use Rattle.wf_laws.proofs.Members.{In, In-range_out}
use Rattle.wf_check_laws.specs.Repeats.{look_x, look_y, is_away, is_away_x, is_away_y, repeats_x, repeats_y, FewAreLeft}

-- how many pass
abbrev count : (ℕ → Bool) → List ℕ → ℕ
count f xs = length (filter f xs)

-- one element more
counted : (b : Bool) (x : ℕ) (xs : List ℕ) → length (cond b (x ∷ xs) xs) ≡ (cond b 1 0) + length xs
counted true x xs = grind arith
counted false x xs = grind arith

-- at most those that pass either of two tests that cover it
count_either : (f g h : ℕ → Bool) (xs : List ℕ) → ((x : ℕ) → In x xs → f x ≡ true → (g x || h x) ≡ true) → count f xs ≤ count g xs + count h xs
count_either f g h [] c = omega arith
count_either f g h (x ∷ xs) c =
    omega (arith, counted (f x) x (filter f xs), counted (g x) x (filter g xs), counted (h x) x (filter h xs), count_either f g h xs (λ y t. c y (inr t)), one (f x) (g x) (h x) (c x (inl refl)))
  where
    one : (a b c : Bool) → (a ≡ true → (b || c) ≡ true) → cond a 1 0 ≤ cond b 1 0 + cond c 1 0
    one false b c h = omega arith
    one true true c h = grind arith
    one true false true h = grind arith
    one true false false h = absurd (differ (sym (h refl)))

-- none passes
count_none : (f : ℕ → Bool) (xs : List ℕ) → ((x : ℕ) → f x ≡ false) → count f xs ≡ 0
count_none f [] h = refl
count_none f (x ∷ xs) h = counted (f x) x (filter f xs) ∙ (λ n. cond (h x n) 1 0 + count_none f xs h n)

-- the numbers from low up to high, without high
abbrev between : ℕ → ℕ → ℕ → Bool
between low high x = nat_le low x && nat_lt x high

-- as many as there are
count_between : (low high a n : ℕ) → count (between low high) (range_with_len a n) ≤ high - max low a
count_between low high a zero = omega arith
count_between low high a (suc n) =
    omega (arith, counted (between low high a) a (filter (between low high) (range_with_len (a + 1) n)), count_between low high (a + 1) n, first low high a)
  where
    first : (low high a : ℕ) → cond (between low high a) 1 0 + (high - max low (a + 1)) ≤ high - max low a
    first low high a = grind arith

-- at most as many as pass a weaker test
count_under : (f g : ℕ → Bool) (xs : List ℕ) → ((x : ℕ) → In x xs → f x ≡ true → g x ≡ true) → count f xs ≤ count g xs
count_under f g xs c =
    omega (arith, count_either f g (λ x. false) xs (λ x t e. or_left (g x) false (c x t e)), count_none (λ x. false) xs (λ x. refl))

-- tests that do not hold
not_less : (a b : ℕ) → nat_lt a b ≡ false → b ≤ a
not_less a b h = grind arith

not_or : (a b : Bool) → not (a || b) ≡ true → (a ≡ false) × (b ≡ false)
not_or true b h = absurd (differ (sym h))
not_or false true h = absurd (differ (sym h))
not_or false false h = (refl, refl)

not_and : (a b : Bool) → not (a && b) ≡ true → (not a || not b) ≡ true
not_and true b h = h
not_and false b h = refl

not_of : (b : Bool) → b ≡ false → not b ≡ true
not_of b h = ap not h

-- within the ends
in_between : (low high x : ℕ) → low ≤ x → x < high → between low high x ≡ true
in_between low high x l u = and_both _ _ (most_test low x l) (less_test x high u)

-- few numbers are near an end
near_few : (m b n : ℕ) → count (λ x. not (is_away m x b)) (range_with_len 0 n) ≤ 2 * m + 1
near_few m b n =
    omega (
      arith,
      count_under (λ x. not (is_away m x b)) (between (b - m) (b + m + 1)) (range_with_len 0 n)
          (λ x t e. let r = not_or (nat_lt (b + m) x) (nat_lt (x + m) b) e in
          near_end m b x (not_less (b + m) x r.0) (not_less (x + m) b r.1)),
      count_between (b - m) (b + m + 1) 0 n,
    )
  where
    near_end : (m b x : ℕ) → x ≤ b + m → b ≤ x + m → between (b - m) (b + m + 1) x ≡ true
    near_end m b x u l = in_between (b - m) (b + m + 1) x (omega arith) (omega arith)

-- few numbers are near one of two ends
near_two : (m b c n : ℕ) → count (λ x. not (is_away m x b && is_away m x c)) (range_with_len 0 n) ≤ 2 * (2 * m + 1)
near_two m b c n =
    omega (
      arith,
      count_either (λ x. not (is_away m x b && is_away m x c)) (λ x. not (is_away m x b)) (λ x. not (is_away m x c)) (range_with_len 0 n) (λ x t e. not_and (is_away m x b) (is_away m x c) e),
      near_few m b n,
      near_few m c n,
    )

-- no number is near an end where there is none
near_none : (m n : ℕ) → count (λ x. not true) (range_with_len 0 n) ≤ 2 * (2 * m + 1)
near_none m n = omega (arith, count_none (λ x. not true) (range_with_len 0 n) (λ x. refl))

-- items, each of which few numbers are near to
near_items : (test : ℕ → Item → Bool) (xs : List ℕ) (most : ℕ) → ((it : Item) → count (λ x. not (test x it)) xs ≤ most) → (items : List Item) → count (λ x. not (list_all (test x) items)) xs ≤ length items * most
near_items test xs most one [] = omega (arith, count_none (λ x. not true) xs (λ x. refl))
near_items test xs most one (t ∷ ts) =
    omega (
      arith,
      count_either (λ x. not (list_all (test x) (t ∷ ts))) (λ x. not (test x t)) (λ x. not (list_all (test x) ts)) xs (λ x u e. not_and (test x t) (list_all (test x) ts) e),
      one t,
      near_items test xs most one ts,
      suc-mul (length ts) most,
    )

-- what does not repeat is near the start, near the end, or near an end of a region
left_over : (a b c p l : Bool) → not (a && (b && (c && (p || l)))) ≡ true → (a ≡ false) ⊎ ((b ≡ false) ⊎ ((c ≡ false) ⊎ (l ≡ false)))
left_over false b c p l h = inl refl
left_over true false c p l h = inr (inl refl)
left_over true true false p l h = inr (inr (inl refl))
left_over true true true p false h = inr (inr (inr refl))
left_over true true true true true h = absurd (differ (sym h))
left_over true true true false true h = absurd (differ (sym h))

-- the sum
summed : (a b c e f k z : ℕ) → a ≤ b + c → c ≤ e + f → b ≤ k + 1 → e ≤ k + 1 → f ≤ z → a ≤ 2 * (k + 1) + z
summed a b c e f k z p q r s t = omega arith

-- in one direction
module _ (repeats : ℕ → Bool) (test : ℕ → Item → Bool) (items : List Item) (look n : ℕ) (periodic : Bool) where
  -- near the start
  abbrev at_start : ℕ → Bool
  at_start = between 0 (look + 1)

  -- near the end
  abbrev at_end : ℕ → Bool
  at_end = between (n - (look + 1)) n

  -- near an end of a region
  abbrev at_region : ℕ → Bool
  at_region x = not (list_all (test x) items)

  -- each number that is left
  which : (x : ℕ) → x < n → not (nat_lt look x && (nat_lt (x + look) n && (nat_lt (x + 1) n && (periodic || list_all (test x) items)))) ≡ true → (at_start x || (at_end x || at_region x)) ≡ true
  which x less h =
      ⊎_elim (λ e. let l = not_less look x e in or_left _ _ (in_between 0 (look + 1) x (omega arith) (omega arith)))
      (λ q. or_right (at_start x) _ (⊎_elim (λ e. let l = not_less (x + look) n e in or_left _ _ (in_between (n - (look + 1)) n x (omega arith) less))
      (λ r. ⊎_elim (λ e. let l = not_less (x + 1) n e in or_left _ _ (in_between (n - (look + 1)) n x (omega arith) less))
      (λ e. or_right (at_end x) _ (not_of (list_all (test x) items) e)) r) q))
      (left_over (nat_lt look x) (nat_lt (x + look) n) (nat_lt (x + 1) n) periodic (list_all (test x) items) h)

  -- all that are left
  pub left_few : ((x : ℕ) → repeats x ≡ (nat_lt look x && (nat_lt (x + look) n && (nat_lt (x + 1) n && (periodic || list_all (test x) items))))) →
      ((it : Item) → count (λ x. not (test x it)) (range_with_len 0 n) ≤ 2 * (2 * look + 1)) →
      count (λ x. not (repeats x)) (range_with_len 0 n) ≤ 2 * (look + 1) + length items * (2 * (2 * look + 1))
  left_few is few =
      summed (count (λ x. not (repeats x)) (range_with_len 0 n)) (count at_start (range_with_len 0 n)) (count (λ x. at_end x || at_region x) (range_with_len 0 n)) (count at_end (range_with_len 0 n)) (count at_region (range_with_len 0 n)) look (length items * (2 * (2 * look + 1)))
      (count_either (λ x. not (repeats x)) at_start (λ x. at_end x || at_region x) (range_with_len 0 n) (λ x t e. let r = In-range_out x 0 n t in which x (omega (arith, r.1)) (ap not (sym (is x)) ∙ e)))
      (count_either (λ x. at_end x || at_region x) at_end at_region (range_with_len 0 n) (λ x t e. e))
      (omega (arith, count_between 0 (look + 1) 0 n))
      (omega (arith, count_between (n - (look + 1)) n 0 n))
      (near_items test (range_with_len 0 n) (2 * (2 * look + 1)) few items)

-- the ends of an item in x
item_x : (plan : Plan) (d m n : ℕ) (it : Item) → count (λ x. not (is_away_x plan d m x it)) (range_with_len 0 n) ≤ 2 * (2 * m + 1)
item_x plan d m n (item.Halo parts) = near_none m n
item_x plan d m n (item.Period parts) = near_none m n
item_x plan d m n (item.Swap one two) = near_none m n
item_x plan d m n (item.Phase ph) = near_two m ph.mx (nx plan d ph.writes - ph.mx) n

-- and in y
item_y : (plan : Plan) (d m n : ℕ) (it : Item) → count (λ y. not (is_away_y plan d m y it)) (range_with_len 0 n) ≤ 2 * (2 * m + 1)
item_y plan d m n (item.Halo parts) = near_none m n
item_y plan d m n (item.Period parts) = near_none m n
item_y plan d m n (item.Swap one two) = near_none m n
item_y plan d m n (item.Phase ph) = near_two m ph.my (ny plan d ph.writes - ph.my) n

-- both directions
pub few_left : FewAreLeft
unfolding repeats_x repeats_y
few_left plan a = (
  left_few (repeats_x plan a) (λ x. is_away_x plan a.domain (look_x a) x) plan.items (look_x a) ((domain_of plan a.domain).ide - 1) (domain_of plan a.domain).periodic_x (λ x. refl) (item_x plan a.domain (look_x a) ((domain_of plan a.domain).ide - 1)),
  left_few (repeats_y plan a) (λ y. is_away_y plan a.domain (look_y a) y) plan.items (look_y a) ((domain_of plan a.domain).jde - 1) (domain_of plan a.domain).periodic_y (λ y. refl) (item_y plan a.domain (look_y a) ((domain_of plan a.domain).jde - 1)),
)
