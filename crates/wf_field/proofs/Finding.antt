-- Cells of a memory are found in the lists that it keeps.
use Rattle.std.proofs.Common.{◌≡◌, ℕ, ◌+◌, ◌-◌, ◌*◌, ◌≤◌, ◌<◌, true, List, get_or, sym, ap, subst, ◌∙◌, refl, arith}
use Rattle.std.proofs.lemmas.Int.{ints}
use Rattle.std.specs.Prelude.{ℤ, pos, ◌-ℤ◌, ◌≤ℤ◌, unsigned_abs}
use Rattle.wf_model.specs.declared.layout.Layout.{Layout}
use Rattle.wf_model.specs.declared.plan.Plan.{Plan}
use Rattle.wf_model.specs.Patches.{Split, Span, Box, Cell, split_of, in_span, size_of, memory_box, kept_at}
use Rattle.wf_model.specs.Sound.{IsLevel}
use Rattle.wf_laws.proofs.Bools.{and_left, and_right}
use Rattle.wf_laws.proofs.Spans.{span-low}
use Rattle.wf_boxes.specs.declared.places.LevelBox.{LevelBox}
use Rattle.wf_boxes.specs.Places.{IsLevelBox, IsFrom, IsCellOf, cells_of, place_of}
use Rattle.wf_model.specs.Kept.{IsKeptCell}
use Rattle.wf_model.specs.Kept.{kept_size, kept_place, level_kept, ShowsMemory}
use Rattle.wf_laws.proofs.Cells.{span-at}
use Rattle.wf_field.specs.Kept.{IsMemory, IsLevelOf, box_at}

-- a number of a span lies among as many from its low end on
from_in : (s : Span) (low : ℤ) (n : ℕ) (c : ℤ) → low ≡ s.low → n ≡ size_of s → in_span s c ≡ true → IsFrom low n c
from_in s low n c l z h =
    let a : s.low ≤ℤ c = span-low s c h in
    let b : unsigned_abs (c -ℤ s.low) < size_of s = (span-at s c h).0 in
    by s.low (size_of s) l z a b
  where
    by : (m : ℤ) (k : ℕ) → low ≡ m → n ≡ k → m ≤ℤ c → unsigned_abs (c -ℤ m) < k → IsFrom low n c
    by m k l z a b = (omega (arith, ints), omega (arith, ints))

module _ (plan : Plan) (split : Split) (d p : ℕ) where
  -- a kept cell is one of the level's box
  pub cell_of : (s : LevelBox) (c : Cell) → IsLevelBox plan split d p c.field s → IsKeptCell plan split d p c → IsCellOf s c.k c.j c.i
  cell_of s c is kept =
      let b : Box = memory_box plan split d p c.field in
      let low = (kept.within).level in
      record {
        level = (low.0, subst (λ (n : ℕ). c.k ≤ n) (sym is.levels) low.1);
        row = from_in b.y s.south s.rows c.j is.south is.rows (and_left (in_span b.y c.j) (in_span b.x c.i) (kept.within).within);
        column = from_in b.x s.west s.columns c.i is.west is.columns (and_right (in_span b.y c.j) (in_span b.x c.i) (kept.within).within);
      }

  -- and stands there in the level's list
  pub place_is : (s : LevelBox) (c : Cell) → IsLevelBox plan split d p c.field s → place_of s c.k c.j c.i ≡ kept_place plan split d p c
  place_is s c is = λ n. ((c.k - 1) * is.rows n + unsigned_abs (c.j -ℤ is.south n)) * is.columns n + unsigned_abs (c.i -ℤ is.west n)

  -- which has as many cells as the box
  pub size_is : (s : LevelBox) (f : ℕ) → IsLevelBox plan split d p f s → kept_size plan split d p f ≡ cells_of s
  size_is s f is = sym (λ n. is.levels n * is.rows n * is.columns n)

module _ (plan : Plan) (layout : Layout) (d p : ℕ) (boxes : List LevelBox) (lists : List (List ℤ)) (is : IsMemory plan layout d p boxes lists) where
  -- the box of a level
  pub box_of : (f : ℕ) → IsLevel plan f → IsLevelBox plan (split_of layout) d p f (box_at boxes f)
  box_of f level = (is.bounds).each f level

  -- a level of the plan has its box and its list
  pub level_of : (f : ℕ) → IsLevel plan f → IsLevelOf boxes lists f
  level_of f level = record {
    box = subst (λ (n : ℕ). f < n) (sym (is.bounds).count) level;
    list = subst (λ (n : ℕ). f < n) (sym is.levels) level;
    size = is.sizes f level ∙ size_is plan (split_of layout) d p (box_at boxes f) f (box_of f level);
  }

  -- the lists hold the function that they are
  pub own_shown : ShowsMemory plan (split_of layout) d p lists (kept_at plan (split_of layout) d p lists)
  own_shown = record { levels = is.levels; sizes = is.sizes; holds = λ c h. refl }

  -- a kept cell is one of its level's box
  pub kept_cell : (c : Cell) → IsKeptCell plan (split_of layout) d p c → IsCellOf (box_at boxes c.field) c.k c.j c.i
  kept_cell c kept = cell_of plan (split_of layout) d p (box_at boxes c.field) c (box_of c.field kept.field) kept

  -- the number at its place is the number of the cell
  pub read_is : (c : Cell) → IsKeptCell plan (split_of layout) d p c →
      get_or (level_kept lists c.field) (place_of (box_at boxes c.field) c.k c.j c.i) (pos 0) ≡ kept_at plan (split_of layout) d p lists c.field c.k c.j c.i
  unfolding kept_at
  read_is c kept = ap (λ (n : ℕ). get_or (level_kept lists c.field) n (pos 0)) (place_is plan (split_of layout) d p (box_at boxes c.field) c (box_of c.field kept.field))

  -- the same of slices that are the boxes and the lists
  pub level_there : (bs : List LevelBox) (ls : List (List ℤ)) → bs ≡ boxes → ls ≡ lists → (f : ℕ) → IsLevel plan f → IsLevelOf bs ls f
  level_there bs ls eb el f level =
      subst (λ (x : List LevelBox). IsLevelOf x ls f) (sym eb) (subst (λ (x : List (List ℤ)). IsLevelOf boxes x f) (sym el) (level_of f level))

  pub cell_there : (bs : List LevelBox) → bs ≡ boxes → (c : Cell) → IsKeptCell plan (split_of layout) d p c → (y x : ℤ) → y ≡ c.j → x ≡ c.i → IsCellOf (box_at bs c.field) c.k y x
  cell_there bs eb c kept y x ey ex =
      subst (λ (b : List LevelBox). IsCellOf (box_at b c.field) c.k y x) (sym eb)
      (subst (λ (z : ℤ). IsCellOf (box_at boxes c.field) c.k z x) (sym ey) (subst (λ (z : ℤ). IsCellOf (box_at boxes c.field) c.k c.j z) (sym ex) (kept_cell c kept)))

  -- the place of a cell as it is computed there
  pub place_there : (bs : List LevelBox) → bs ≡ boxes → (c : Cell) → IsKeptCell plan (split_of layout) d p c → (y x : ℤ) → y ≡ c.j → x ≡ c.i → place_of (box_at bs c.field) c.k y x ≡ kept_place plan (split_of layout) d p c
  place_there bs eb c kept y x ey ex =
      (λ n. place_of (box_at (eb n) c.field) c.k (ey n) (ex n)) ∙ place_is plan (split_of layout) d p (box_at boxes c.field) c (box_of c.field kept.field)

  pub read_there : (bs : List LevelBox) (ls : List (List ℤ)) → bs ≡ boxes → ls ≡ lists → (c : Cell) → IsKeptCell plan (split_of layout) d p c → (y x : ℤ) → y ≡ c.j → x ≡ c.i → (n : ℤ) →
      n ≡ get_or (level_kept ls c.field) (place_of (box_at bs c.field) c.k y x) (pos 0) → n ≡ kept_at plan (split_of layout) d p lists c.field c.k c.j c.i
  unfolding kept_at
  read_there bs ls eb el c kept y x ey ex n is =
      is ∙ ap (λ (m : ℕ). get_or (level_kept ls c.field) m (pos 0)) (place_there bs eb c kept y x ey ex) ∙ ap (λ (xs : List (List ℤ)). get_or (level_kept xs c.field) (kept_place plan (split_of layout) d p c) (pos 0)) el
