-- Rows of cells of a patch's memory.
use Rattle.std.proofs.Common.{◌≡◌, ℕ, ◌-◌, ◌<◌, List, length, get_or, set, sym, ap, subst, ◌∙◌, All, arith}
use Rattle.std.proofs.lemmas.Int.{ints}
use Rattle.std.specs.Prelude.{ℤ, pos, ◌+ℤ◌, ◌-ℤ◌, unsigned_abs, if◌then◌else◌}
use Rattle.std.specs.List.{range_with_len, list_any}
use Rattle.wf_model.specs.declared.layout.Layout.{Layout}
use Rattle.wf_model.specs.declared.plan.Plan.{Plan}
use Rattle.wf_model.specs.Patches.{Cell, split_of, kept_at}
use Rattle.wf_model.specs.Exchange.{same_cell}
use Rattle.wf_model.specs.Sound.{IsLevel}
use Rattle.wf_laws.proofs.Members.{In-map, In-range, All-In}
use Rattle.wf_boxes.specs.declared.places.LevelBox.{LevelBox}
use Rattle.wf_boxes.specs.Places.{IsCellOf, IsRowOf, place_of}
use Rattle.wf_model.specs.Kept.{IsKeptCell}
use Rattle.wf_model.specs.Kept.{level_kept}
use Rattle.wf_field.specs.Kept.{IsMemory, box_at}
use Rattle.wf_field.specs.Settings.{cell_at}
use Rattle.wf_field.specs.Rows.{with_row, row_cells, row_number, number_of, IsBoxCell, SetsCells, SetsKept}
use Rattle.wf_field.proofs.Finding.{level_of, kept_cell, box_of, place_is}
use Rattle.wf_field.proofs.RowsPut.{row_set}

module _ (plan : Plan) (layout : Layout) (d p : ℕ) (boxes : List LevelBox) (lists : List (List ℤ)) (is : IsMemory plan layout d p boxes lists) where
  -- a kept cell is one of the boxes
  box_cell : (c : Cell) → IsKeptCell plan (split_of layout) d p c → IsBoxCell boxes c
  box_cell c kept = record { level = (level_of plan layout d p boxes lists is c.field kept.field).box; cell = kept_cell plan layout d p boxes lists is c kept }

  -- its number in any lists over the boxes
  number_is : (ls : List (List ℤ)) (c : Cell) → IsKeptCell plan (split_of layout) d p c → number_of boxes ls c ≡ kept_at plan (split_of layout) d p ls c.field c.k c.j c.i
  unfolding kept_at
  number_is ls c kept = ap (λ (n : ℕ). get_or (level_kept ls c.field) n (pos 0)) (place_is plan (split_of layout) d p (box_at boxes c.field) c (box_of plan layout d p boxes lists is c.field kept.field))

  -- what is set of the boxes' cells is set of the patch's
  pub kept_from : (v : Cell → ℤ) (cells : List Cell) (new : List (List ℤ)) → SetsCells boxes v cells lists new → SetsKept plan (split_of layout) d p v cells lists new
  kept_from v cells new h = record {
    levels = h.levels;
    sizes = h.sizes;
    numbers = λ c kept. sym (number_is new c kept) ∙ h.numbers c (box_cell c kept) ∙ ap (λ (n : ℤ). if list_any (same_cell c) cells then v c else n) (number_is lists c kept);
  }

  pub memory_from : (v : Cell → ℤ) (cells : List Cell) (new : List (List ℤ)) → SetsCells boxes v cells lists new → IsMemory plan layout d p boxes new
  memory_from v cells new h = record { sound = is.sound; bounds = is.bounds; few = is.few; levels = h.levels ∙ is.levels; sizes = λ f l. h.sizes f ∙ is.sizes f l }

  -- a row of kept cells
  pub row_of : (f k n : ℕ) (j i : ℤ) → 0 < n → All (IsKeptCell plan (split_of layout) d p) (row_cells f k j i n) → IsRowOf (box_at boxes f) k j i n
  row_of f k n j i some all =
      let one : (m : ℕ) → m < n → IsCellOf (box_at boxes f) k j (i +ℤ pos m) = λ m h.
      kept_cell plan layout d p boxes lists is (cell_at f k j (i +ℤ pos m))
      (All-In (IsKeptCell plan (split_of layout) d p) (cell_at f k j (i +ℤ pos m)) (row_cells f k j i n) all (In-map (λ (x : ℕ). cell_at f k j (i +ℤ pos x)) m (range_with_len 0 n) (In-range m 0 n (omega arith) (omega arith)))) in
      let first = one 0 some in
      let last = one (n - 1) (omega arith) in
      let low = (first.column).0 in
      let high = (last.column).1 in
      record { level = first.level; row = first.row; low = omega (arith, ints); high = omega (arith, ints) }

  -- as it is computed there
  pub row_there : (bs : List LevelBox) → bs ≡ boxes → (f k n : ℕ) (j i y x : ℤ) → y ≡ j → x ≡ i → 0 < n → All (IsKeptCell plan (split_of layout) d p) (row_cells f k j i n) → IsRowOf (box_at bs f) k y x n
  row_there bs eb f k n j i y x ey ex some all =
      subst (λ (b : List LevelBox). IsRowOf (box_at b f) k y x n) (sym eb)
      (subst (λ (z : ℤ). IsRowOf (box_at boxes f) k z x n) (sym ey) (subst (λ (z : ℤ). IsRowOf (box_at boxes f) k j z n) (sym ex) (row_of f k n j i some all)))

  -- the row that is set
  module _ (f k : ℕ) (j i : ℤ) (ys : List ℤ) (level : IsLevel plan f) (some : 0 < length ys) (all : All (IsKeptCell plan (split_of layout) d p) (row_cells f k j i (length ys)))
      (bs : List LevelBox) (ls new : List (List ℤ)) (eb : bs ≡ boxes) (el : ls ≡ lists) (y x : ℤ) (ey : y ≡ j) (ex : x ≡ i)
      (set_is : new ≡ set ls f (with_row (level_kept ls f) (place_of (box_at bs f) k y x) ys)) where
    set_here : SetsCells boxes (row_number i ys) (row_cells f k j i (length ys)) lists new
    set_here =
        subst (λ (xs : List (List ℤ)). SetsCells boxes (row_number i ys) (row_cells f k j i (length ys)) lists xs) (sym (set_is ∙ (λ n. set (el n) f (with_row (level_kept (el n) f) (place_of (box_at (eb n) f) k (ey n) (ex n)) ys))))
        (row_set boxes (row_number i ys) lists f k j i ys (level_of plan layout d p boxes lists is f level) (row_of f k (length ys) j i some all) (λ m h. ap (λ (n : ℕ). get_or ys n (pos 0)) (far i m)))
      where
        far : (i : ℤ) (m : ℕ) → m ≡ unsigned_abs ((i +ℤ pos m) -ℤ i)
        far i m = omega (arith, ints)

    pub row_long : length new ≡ length lists
    row_long = set_here.levels

    pub row_kept : SetsKept plan (split_of layout) d p (row_number i ys) (row_cells f k j i (length ys)) lists new
    row_kept = kept_from (row_number i ys) (row_cells f k j i (length ys)) new set_here

    pub row_memory : IsMemory plan layout d p boxes new
    row_memory = memory_from (row_number i ys) (row_cells f k j i (length ys)) new set_here
