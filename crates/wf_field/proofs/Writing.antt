-- An own cell that is set.
use Rattle.std.proofs.Common.{◌≡◌, ℕ, ◌<◌, List, length, set, sym, ap, subst, ◌∙◌}
use Rattle.std.proofs.lemmas.List.{length-set}
use Rattle.std.specs.Prelude.{ℤ}
use Rattle.wf_model.specs.declared.layout.Layout.{Layout}
use Rattle.wf_model.specs.declared.plan.Plan.{Plan}
use Rattle.wf_model.specs.Patches.{Cell, split_of}
use Rattle.wf_boxes.specs.declared.places.LevelBox.{LevelBox}
use Rattle.wf_boxes.specs.Places.{place_of}
use Rattle.wf_model.specs.Kept.{IsKeptCell}
use Rattle.wf_model.specs.Kept.{kept_place, level_kept, SetsExactly}
use Rattle.wf_patch_laws.proofs.KeptLists.{have_places}
use Rattle.wf_field.specs.Kept.{IsMemory, box_at}
use Rattle.wf_field.specs.Settings.{cell_setting}
use Rattle.wf_field.proofs.Finding.{place_there}
use Rattle.wf_field.proofs.Changing.{memory_set, one_cell}

module _ (plan : Plan) (layout : Layout) (d p : ℕ) (boxes : List LevelBox) (lists : List (List ℤ)) (is : IsMemory plan layout d p boxes lists) (c : Cell) (kept : IsKeptCell plan (split_of layout) d p c) (v w : ℤ) (same : w ≡ v)
    (bs : List LevelBox) (ls new : List (List ℤ)) (eb : bs ≡ boxes) (el : ls ≡ lists) (y x : ℤ) (ey : y ≡ c.j) (ex : x ≡ c.i)
    (set_is : new ≡ set ls c.field (set (level_kept ls c.field) (place_of (box_at bs c.field) c.k y x) w)) where
  -- the new lists
  abbrev after : List (List ℤ)
  after = set lists c.field (set (level_kept lists c.field) (kept_place plan (split_of layout) d p c) v)

  after_is : new ≡ after
  after_is = set_is ∙ (λ n. set (el n) c.field (set (level_kept (el n) c.field) (place_there plan layout d p boxes lists is bs eb c kept y x ey ex n) (same n)))

  pub long : length new ≡ length lists
  long = ap (λ (xs : List (List ℤ)). length xs) after_is ∙ length-set lists c.field (set (level_kept lists c.field) (kept_place plan (split_of layout) d p c) v)

  pub put_memory : IsMemory plan layout d p boxes new
  put_memory =
      subst (λ (xs : List (List ℤ)). IsMemory plan layout d p boxes xs) (sym after_is)
      (memory_set plan layout d p boxes lists c.field (set (level_kept lists c.field) (kept_place plan (split_of layout) d p c) v) is kept.field (length-set (level_kept lists c.field) (kept_place plan (split_of layout) d p c) v))

  pub put_exact : SetsExactly plan (split_of layout) d p (cell_setting c v) lists new
  put_exact =
      subst (λ (xs : List (List ℤ)). SetsExactly plan (split_of layout) d p (cell_setting c v) lists xs) (sym after_is)
      (one_cell plan (split_of layout) d p lists c v (subst (λ (n : ℕ). c.field < n) (sym is.levels) kept.field) kept
      (subst (λ (n : ℕ). kept_place plan (split_of layout) d p c < n) (sym (is.sizes c.field kept.field)) (have_places plan (split_of layout) d p c kept)))
