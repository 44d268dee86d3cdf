-- Cells that are set one after the other.
use Rattle.std.proofs.Common.{◌≡◌, ⊎_elim, ℕ, zero, suc, ◌+◌, Bool, true, false, List, [], ◌∷◌, ◌++◌, flat_map, refl, sym, ap, subst, ◌∙◌, arith}
use Rattle.std.proofs.lemmas.Grind.{flat_map-append}
use Rattle.std.proofs.lemmas.List.Folds.{list_any-append}
use Rattle.std.specs.Prelude.{ℤ, ◌||◌, if◌then◌else◌}
use Rattle.std.specs.List.{range_with_len, list_any}
use Rattle.wf_model.specs.declared.plan.Plan.{Plan}
use Rattle.wf_model.specs.Patches.{Split, Cell, kept_at}
use Rattle.wf_model.specs.Exchange.{same_cell}
use Rattle.wf_laws.proofs.Members.{In, In-list_any}
use Rattle.wf_laws.proofs.Bools.{split_bool}
use Rattle.wf_laws.proofs.Fetch.{same_cell-equal}
use Rattle.wf_field.specs.Rows.{SetsKept}

-- the numbers from a on, and one more
pub range_more : (a n : ℕ) → range_with_len a (n + 1) ≡ range_with_len a n ++ (a + n) ∷ []
range_more a n = let e : n + 1 ≡ suc n = omega arith in ap (range_with_len a) e ∙ by a n
  where
    by : (a n : ℕ) → range_with_len a (suc n) ≡ range_with_len a n ++ (a + n) ∷ []
    by a zero = let e : a ≡ a + zero = omega arith in ap (λ (x : ℕ). x ∷ []) e
    by a (suc n) = let e : a + 1 + n ≡ a + suc n = omega arith in ap (λ (xs : List ℕ). a ∷ xs) (by (a + 1) n) ∙ ap (λ (x : ℕ). a ∷ (range_with_len (a + 1) n ++ x ∷ [])) e

-- what a range gives, with one more
pub flat_more : {X : Type 0} (f : ℕ → List X) (n : ℕ) → flat_map f (range_with_len 0 (n + 1)) ≡ flat_map f (range_with_len 0 n) ++ f n
flat_more f n =
    ap (flat_map f) (range_more 0 n) ∙ flat_map-append f (range_with_len 0 n) ((0 + n) ∷ [])
    ∙ ap (λ (m : ℕ). flat_map f (range_with_len 0 n) ++ flat_map f (m ∷ [])) (zero_more n) ∙ ap (λ ys. flat_map f (range_with_len 0 n) ++ ys) (alone (f n))
  where
    zero_more : (n : ℕ) → 0 + n ≡ n
    zero_more n = omega arith

    alone : {X : Type 0} (xs : List X) → xs ++ [] ≡ xs
    alone [] = refl
    alone (x ∷ xs) = ap (λ ys. x ∷ ys) (alone xs)

module _ (plan : Plan) (split : Split) (d p : ℕ) where
  pub none_kept : (v : Cell → ℤ) (lists : List (List ℤ)) → SetsKept plan split d p v [] lists lists
  none_kept v lists = record { levels = refl; sizes = λ f. refl; numbers = λ c h. refl }

  pub both_kept : (v : Cell → ℤ) (cs ds : List Cell) (a b c : List (List ℤ)) → SetsKept plan split d p v cs a b → SetsKept plan split d p v ds b c → SetsKept plan split d p v (cs ++ ds) a c
  both_kept v cs ds a b c one two = record {
    levels = two.levels ∙ one.levels;
    sizes = λ f. two.sizes f ∙ one.sizes f;
    numbers = λ x h.
        two.numbers x h ∙ ap (λ (n : ℤ). if list_any (same_cell x) ds then v x else n) (one.numbers x h)
        ∙ joined (list_any (same_cell x) cs) (list_any (same_cell x) ds) (v x) (kept_at plan split d p a x.field x.k x.j x.i)
        ∙ ap (λ (t : Bool). if t then v x else kept_at plan split d p a x.field x.k x.j x.i) (sym (list_any-append (same_cell x) cs ds));
  }
    where
      joined : (s t : Bool) (x y : ℤ) → (if t then x else (if s then x else y)) ≡ (if s || t then x else y)
      joined true true x y = refl
      joined true false x y = refl
      joined false true x y = refl
      joined false false x y = refl

  -- by other numbers that are the same at these cells
  pub numbers_kept : (v w : Cell → ℤ) (cs : List Cell) (a b : List (List ℤ)) → ((c : Cell) → In c cs → v c ≡ w c) → SetsKept plan split d p v cs a b → SetsKept plan split d p w cs a b
  numbers_kept v w cs a b same h = record {
    levels = h.levels;
    sizes = h.sizes;
    numbers = λ c k. h.numbers c k ∙ ⊎_elim
        (λ any. let x = In-list_any (same_cell c) cs any in
        let e : v c ≡ w c = ap v (same_cell-equal c x.0 x.2) ∙ same x.0 x.1 ∙ ap w (sym (same_cell-equal c x.0 x.2)) in
        ap (λ (n : ℤ). if list_any (same_cell c) cs then n else kept_at plan split d p a c.field c.k c.j c.i) e)
        (λ none. ap (λ (t : Bool). if t then v c else kept_at plan split d p a c.field c.k c.j c.i) none ∙ sym (ap (λ (t : Bool). if t then w c else kept_at plan split d p a c.field c.k c.j c.i) none))
        (split_bool (list_any (same_cell c) cs));
  }

  -- the same cells by another list
  pub cells_kept : (v : Cell → ℤ) (cs ds : List Cell) (a b : List (List ℤ)) → cs ≡ ds → SetsKept plan split d p v cs a b → SetsKept plan split d p v ds a b
  cells_kept v cs ds a b e h = subst (λ (xs : List Cell). SetsKept plan split d p v xs a b) e h

-- of the same patch
pub kept_patch : {plan : Plan} {split : Split} {d e p q : ℕ} {v : Cell → ℤ} {cs : List Cell} {a b : List (List ℤ)} → d ≡ e → p ≡ q → SetsKept plan split d p v cs a b → SetsKept plan split e q v cs a b
kept_patch {plan} {split} {d} {e} {p} {q} {v} {cs} {a} {b} domain patch h =
    subst (λ (n : ℕ). SetsKept plan split n q v cs a b) domain (subst (λ (n : ℕ). SetsKept plan split d n v cs a b) patch h)
