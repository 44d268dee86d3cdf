-- How many halves a domain's patches have before a place: those that stand at an earlier one.
use Rattle.std.proofs.Common.{◌≡◌, ℕ, zero, suc, ◌+◌, ◌≤◌, Bool, true, false, List, [], ◌∷◌, map, take, length, refl, sym, ap, subst, ◌∙◌, arith, length-append}
use Rattle.std.proofs.lemmas.List.Elements.{filter-append}
use Rattle.std.specs.Prelude.{filter, nat_lt}
use Rattle.wf_model.specs.declared.script.Entry.{Entry}
use Rattle.wf_model.specs.Outcome.{RunData, script}
use Rattle.wf_model.specs.Halves.{Due, halves_of}
use Rattle.wf_laws.proofs.Members.{In-map_out, filter-none, filter-all}
use Rattle.wf_laws.proofs.Dues.{due_at, entry_halves, halves_from, from_low, count_before}

module _ (r : RunData) (d : ℕ) where
  -- those of the first places are those that stand before the place
  count_from : (a n : ℕ) (es : List Entry) → length (halves_from r d a (take n es)) ≡ length (filter (λ (x : Due). nat_lt x.place (a + n)) (halves_from r d a es))
  count_from a n [] = none n
    where
      none : (n : ℕ) → length (halves_from r d a (take n [])) ≡ 0
      none zero = refl
      none (suc n) = refl
  count_from a zero (e ∷ es) = sym (ap length (filter-none (λ (x : Due). nat_lt x.place (a + 0)) (halves_from r d a (e ∷ es)) (λ x i. past x.place a (from_low r d a (e ∷ es) x i))))
    where
      past : (m a : ℕ) → a ≤ m → nat_lt m (a + 0) ≡ false
      past m a h = grind arith
  count_from a (suc n) (e ∷ es) =
      let mine : List Due = map (due_at r d a e) (entry_halves r d e) in
      let test : Due → Bool = λ x. nat_lt x.place (a + suc n) in
      length-append mine (halves_from r d (a + 1) (take n es))
      ∙ ap (λ (m : ℕ). length mine + m) (count_from (a + 1) n es ∙ ap (λ (m : ℕ). length (filter (λ (x : Due). nat_lt x.place m) (halves_from r d (a + 1) es))) (moved a n))
      ∙ sym (ap length (filter-append test mine (halves_from r d (a + 1) es)) ∙ length-append (filter test mine) (filter test (halves_from r d (a + 1) es))
      ∙ ap (λ (xs : List Due). length xs + length (filter test (halves_from r d (a + 1) es)))
      (filter-all test mine (λ x i. let m = In-map_out (due_at r d a e) x (entry_halves r d e) i in subst (λ (y : Due). nat_lt y.place (a + suc n) ≡ true) (sym m.2) (here_before a n))))
    where
      moved : (a n : ℕ) → a + 1 + n ≡ a + suc n
      moved a n = omega arith

      here_before : (a n : ℕ) → nat_lt a (a + suc n) ≡ true
      here_before a n = grind arith

  -- the count is that of the halves that stand before the place
  pub count_is : (n : ℕ) → count_before r d n ≡ length (filter (λ (x : Due). nat_lt x.place n) (halves_of r d))
  unfolding count_before halves_of
  count_is n = count_from 0 n (script r) ∙ ap (λ (m : ℕ). length (filter (λ (x : Due). nat_lt x.place m) (halves_of r d))) (zero_left n)
    where
      zero_left : (n : ℕ) → 0 + n ≡ n
      zero_left n = omega arith
