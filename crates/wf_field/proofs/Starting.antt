-- A memory of zeros.
use Rattle.std.proofs.Common.{◌≡◌, ℕ, ◌+◌, ◌≤◌, ◌<◌, List, [], ◌∷◌, ◌++◌, length, get_or, sym, ap, subst, ◌∙◌, inl, inr, arith}
use Rattle.std.proofs.lemmas.List.{get_or-replicate, length-replicate, get_or-append-add}
use Rattle.std.proofs.lemmas.Bool.{cases_lt}
use Rattle.std.proofs.Math.ListN.{get_or-append}
use Rattle.std.specs.Prelude.{ℤ, pos, replicate}
use Rattle.wf_model.specs.declared.layout.Layout.{Layout}
use Rattle.wf_model.specs.declared.plan.Plan.{Plan}
use Rattle.wf_model.specs.Patches.{split_of, kept_at}
use Rattle.wf_model.specs.Sound.{IsLevel}
use Rattle.wf_boxes.specs.declared.places.LevelBox.{LevelBox}
use Rattle.wf_model.specs.Kept.{IsSoundPatch}
use Rattle.wf_model.specs.Kept.{kept_size, kept_place, level_kept, ShowsMemory}
use Rattle.wf_patch_laws.proofs.KeptLists.{have_places}
use Rattle.wf_field.specs.Kept.{AreLevelBoxes, AreZeros, IsMemory, box_at, no_box}
use Rattle.wf_field.proofs.Finding.{size_is}

-- what holds of the boxes of n levels and of one more
pub box_more :
    (P : ℕ → LevelBox → Type 0) (boxes : List LevelBox) (x : LevelBox) (n : ℕ)
    → length boxes ≡ n → ((f : ℕ) → f < n → P f (box_at boxes f)) → P n x
    → (f : ℕ) → f < n + 1 → P f (box_at (boxes ++ x ∷ []) f)
box_more P boxes x n long each one f h = elim (cases_lt f n) [
  | inl l ↦ subst (P f) (sym (get_or-append boxes (x ∷ []) no_box f (subst (λ (m : ℕ). f < m) (sym long) l))) (each f l)
  | inr g ↦
      let is : n ≡ f = omega arith in
      let at : length boxes + 0 ≡ f = omega arith in
      let last : box_at (boxes ++ x ∷ []) f ≡ x = ap (box_at (boxes ++ x ∷ [])) (sym at) ∙ get_or-append-add boxes (x ∷ []) 0 no_box in
      subst (λ (b : LevelBox). P f b) (sym last) (subst (λ (m : ℕ). P m x) is one)
]

module _ (plan : Plan) (layout : Layout) (d p : ℕ) (boxes bs : List LevelBox) (lists ls : List (List ℤ)) (sound : IsSoundPatch plan layout d p) (few : length plan.fields ≤ 64) (are : AreLevelBoxes plan (split_of layout) d p boxes)
    (zeros : AreZeros boxes (length boxes) lists) (eb : bs ≡ boxes) (el : ls ≡ lists) where
  -- the list of a level
  list_is : (f : ℕ) → IsLevel plan f → level_kept lists f ≡ replicate (kept_size plan (split_of layout) d p f) (pos 0)
  list_is f level =
      zeros.zeros f (subst (λ (n : ℕ). f < n) (sym are.count) level)
      ∙ ap (λ (n : ℕ). replicate n (pos 0)) (sym (size_is plan (split_of layout) d p (box_at boxes f) f (are.each f level)))

  made : IsMemory plan layout d p boxes lists
  made = record {
    sound = sound;
    bounds = are;
    few = few;
    levels = zeros.count ∙ are.count;
    sizes = λ f level. ap (λ (xs : List ℤ). length xs) (list_is f level) ∙ length-replicate (kept_size plan (split_of layout) d p f) (pos 0);
  }

  shown : ShowsMemory plan (split_of layout) d p lists (λ f k j i. pos 0)
  unfolding kept_at
  shown = record {
    levels = made.levels;
    sizes = made.sizes;
    holds = λ c h. ap (λ (xs : List ℤ). get_or xs (kept_place plan (split_of layout) d p c) (pos 0)) (list_is c.field h.field)
        ∙ get_or-replicate (kept_size plan (split_of layout) d p c.field) (kept_place plan (split_of layout) d p c) (pos 0) (pos 0) (have_places plan (split_of layout) d p c h);
  }

  pub memory_made : IsMemory plan layout d p bs ls
  memory_made = subst (λ (b : List LevelBox). IsMemory plan layout d p b ls) (sym eb) (subst (λ (x : List (List ℤ)). IsMemory plan layout d p boxes x) (sym el) made)

  pub zeros_shown : ShowsMemory plan (split_of layout) d p ls (λ f k j i. pos 0)
  zeros_shown = subst (λ (x : List (List ℤ)). ShowsMemory plan (split_of layout) d p x (λ f k j i. pos 0)) (sym el) shown
