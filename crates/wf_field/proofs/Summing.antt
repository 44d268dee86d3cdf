-- Lists joined, counted and summed one by one.
use Rattle.std.proofs.Common.{◌≡◌, ℕ, ◌+◌, ◌*◌, ◌^◌, ◌≤◌, ◌<◌, List, [], ◌∷◌, ◌++◌, length, get_or, take, flat_map, refl, sym, ap, ap₂, ◌∙◌, subst, arith}
use Rattle.std.proofs.lemmas.Int.{ints}
use Rattle.std.proofs.lemmas.Grind.{flat_map-append}
use Rattle.std.proofs.lemmas.List.{take_more, length-append, get_or_read}
use Rattle.std.proofs.lemmas.List.Sums.{fold-append}
use Rattle.std.specs.Prelude.{ℤ, pos, ◌+ℤ◌, fold}
use Rattle.wf_model.specs.declared.layout.Layout.{Layout}
use Rattle.wf_model.specs.declared.plan.Plan.{Plan}
use Rattle.wf_model.specs.Patches.{split_of}
use Rattle.wf_boxes.specs.declared.places.LevelBox.{LevelBox}
use Rattle.wf_boxes.specs.Places.{cells_of}
use Rattle.wf_model.specs.Kept.{level_kept}
use Rattle.wf_field.specs.Kept.{IsMemory, AreModest, box_at}
use Rattle.wf_field.proofs.Finding.{size_is, box_of}

-- the first lists joined, and one more
joined_more : (xs : List (List ℤ)) (i : ℕ) (r : List ℤ) → i < length xs → r ≡ get_or xs i r → flat_map (λ ys. ys) (take (i + 1) xs) ≡ flat_map (λ ys. ys) (take i xs) ++ r
joined_more xs i r h is =
    ap (flat_map (λ ys. ys)) (take_more xs i r h) ∙ flat_map-append (λ ys. ys) (take i xs) (get_or xs i r ∷ [])
    ∙ ap (λ ys. flat_map (λ zs. zs) (take i xs) ++ ys) (alone (get_or xs i r) ∙ sym is)
  where
    alone : {X : Type 0} (xs : List X) → xs ++ [] ≡ xs
    alone [] = refl
    alone (x ∷ xs) = ap (λ ys. x ∷ ys) (alone xs)

-- counted
pub count_more : (xs : List (List ℤ)) (i n : ℕ) (r s : List ℤ) → i < length xs → r ≡ get_or xs i r → s ≡ r → n ≡ length (flat_map (λ ys. ys) (take i xs)) → n + length s ≡ length (flat_map (λ ys. ys) (take (i + 1) xs))
count_more xs i n r s h is same before =
    ap₂ (λ a (b : List ℤ). a + length b) before same ∙ sym (length-append (flat_map (λ ys. ys) (take i xs)) r) ∙ ap (λ (ys : List ℤ). length ys) (sym (joined_more xs i r h is))

-- a sum from a number
fold_from : (a : ℤ) (xs : List ℤ) → fold ◌+ℤ◌ a xs ≡ a +ℤ fold ◌+ℤ◌ (pos 0) xs
fold_from a [] = omega (arith, ints)
fold_from a (x ∷ xs) =
    let one : fold ◌+ℤ◌ (a +ℤ x) xs ≡ (a +ℤ x) +ℤ fold ◌+ℤ◌ (pos 0) xs = fold_from (a +ℤ x) xs in
    let two : fold ◌+ℤ◌ (pos 0 +ℤ x) xs ≡ (pos 0 +ℤ x) +ℤ fold ◌+ℤ◌ (pos 0) xs = fold_from (pos 0 +ℤ x) xs in
    by a x (fold ◌+ℤ◌ (a +ℤ x) xs) (fold ◌+ℤ◌ (pos 0 +ℤ x) xs) (fold ◌+ℤ◌ (pos 0) xs) one two
  where
    by : (a x p q s : ℤ) → p ≡ (a +ℤ x) +ℤ s → q ≡ (pos 0 +ℤ x) +ℤ s → p ≡ a +ℤ q
    by a x p q s e f = omega (arith, ints)

-- summed
pub sum_more : (xs : List (List ℤ)) (i : ℕ) (n m : ℤ) (r s : List ℤ) → i < length xs → r ≡ get_or xs i r → s ≡ r → n ≡ fold ◌+ℤ◌ (pos 0) (flat_map (λ ys. ys) (take i xs)) → m ≡ fold ◌+ℤ◌ (pos 0) s →
    n +ℤ m ≡ fold ◌+ℤ◌ (pos 0) (flat_map (λ ys. ys) (take (i + 1) xs))
sum_more xs i n m r s h is same before now =
    ap₂ ◌+ℤ◌ before (now ∙ ap (fold ◌+ℤ◌ (pos 0)) same) ∙ sym (fold_from (fold ◌+ℤ◌ (pos 0) (flat_map (λ ys. ys) (take i xs))) r)
    ∙ sym (fold-append ◌+ℤ◌ (pos 0) (flat_map (λ ys. ys) (take i xs)) r) ∙ ap (fold ◌+ℤ◌ (pos 0)) (sym (joined_more xs i r h is))

-- a list that is read is no longer than one may be
pub modest_read : (xs : List (List ℤ)) (i : ℕ) (r s : List ℤ) → AreModest xs → i < length xs → r ≡ get_or xs i r → s ≡ r → length s ≤ 2 ^ 37
modest_read xs i r s modest h is same =
    subst (λ (ys : List ℤ). length ys ≤ 2 ^ 37) (sym (same ∙ get_or_read xs i r h is [])) (modest.each i h)

-- the lists of a memory are no longer
pub memory_modest : (plan : Plan) (layout : Layout) (d p : ℕ) (boxes : List LevelBox) (lists : List (List ℤ)) → IsMemory plan layout d p boxes lists → AreModest lists
memory_modest plan layout d p boxes lists is = record {
  few = subst (λ (n : ℕ). n ≤ 64) (sym is.levels) is.few;
  each = λ f h.
      let level = subst (λ (n : ℕ). f < n) is.levels h in
      let box = box_of plan layout d p boxes lists is f level in
      let size : length (level_kept lists f) ≡ cells_of (box_at boxes f) = is.sizes f level ∙ size_is plan (split_of layout) d p (box_at boxes f) f box in
      let s : LevelBox = box_at boxes f in
      subst (λ (n : ℕ). n ≤ 2 ^ 37) (sym size) (product s.levels s.rows s.columns (box.narrow).2 (box.narrow).0 (box.narrow).1);
}
  where
    times : (a b m n : ℕ) → a ≤ m → b ≤ n → a * b ≤ m * n
    times a b m n h l = grind arith

    product : (a b c : ℕ) → a ≤ 128 → b ≤ 2 ^ 15 → c ≤ 2 ^ 15 → a * b * c ≤ 2 ^ 37
    product a b c h l m = let one : a * b ≤ 128 * 2 ^ 15 = times a b 128 (2 ^ 15) h l in times (a * b) c (128 * 2 ^ 15) (2 ^ 15) one m
