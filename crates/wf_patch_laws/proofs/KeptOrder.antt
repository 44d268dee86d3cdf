-- The list of a level's cells, by place, and the lists of all levels.
use Rattle.std.proofs.Common.{◌≡◌, ℕ, zero, suc, ◌+◌, ◌-◌, ◌*◌, ◌/◌, ◌%◌, ◌<◌, List, [], ◌∷◌, ◌++◌, length, map, get_or, refl, sym, ap, ◌∙◌, subst, arith}
use Rattle.std.proofs.Math.Nat.{mod-lt, mul_assoc, mul_comm, zero-mul, div-lt_iff_lt-mul, mod-add-div'}
use Rattle.std.proofs.lemmas.List.{ext_get_or, get_or-map, length-map, map-append}
use Rattle.std.proofs.lemmas.List.Folds.{fold-map}
use Rattle.std.specs.Prelude.{ℤ, pos, ◌+ℤ◌, ◌-ℤ◌, unsigned_abs, fold, flat_map}
use Rattle.std.specs.List.{range_with_len}
use Rattle.wf_model.specs.declared.plan.Plan.{Plan}
use Rattle.wf_model.specs.Plans.{levels_of, nz}
use Rattle.wf_model.specs.Patches.{Split, Box, Cell, in_span, size_of, memory_box, cells_in, kept_at}
use Rattle.wf_model.specs.PatchEffect.{Memory, patch_cells}
use Rattle.wf_model.specs.Agreement.{cell_number}
use Rattle.wf_model.specs.Sound.{IsLevel}
use Rattle.wf_model.specs.Kept.{IsKeptCell, kept_place, level_kept, ShowsMemory}
use Rattle.wf_laws.proofs.Bools.{and_left, and_right, and_both}
use Rattle.wf_laws.proofs.Cells.{cell, span-at, span-holds}
use Rattle.wf_laws.proofs.BoxCells.{place_below, length-cells, get_or-cells}
use Rattle.wf_patch_laws.specs.Memory.{ListsHaveTheCellsInOrder, ListsOfTheCellsShow, ListsHaveAllCells, ListsAreSummed}
use Rattle.wf_patch_laws.proofs.KeptLists.{far_is, Parts, parts}

-- a map of a flat map
map_flat : {X Y Z : Type 0} (g : Y → Z) (f : X → List Y) (xs : List X) → map g (flat_map f xs) ≡ flat_map (λ x. map g (f x)) xs
map_flat g f [] = refl
map_flat g f (x ∷ xs) = map-append g (f x) (flat_map f xs) ∙ ap (λ ys. map g (f x) ++ ys) (map_flat g f xs)

-- a product of which some number is less has factors
some_factor : (n m x : ℕ) → n < m * x → 0 < x
some_factor n m zero h = absurd (omega (arith, h, mul_comm m zero, zero-mul m))
some_factor n m (suc x) h = omega arith

-- a cell of a level, by how far it stands from the low ends of a box
abbrev far_cell : ℕ → Box → ℕ → ℕ → ℕ → Cell
far_cell f b k a x = cell f k (b.y.low +ℤ pos a) (b.x.low +ℤ pos x)

-- how many cells a box has, as a patch counts them
length-kept : (plan : Plan) (f : ℕ) (b : Box) → length (cells_in plan f b) ≡ nz plan f * size_of b.y * size_of b.x
length-kept plan f b = length-cells plan f b ∙ sym (mul_assoc (nz plan f) (size_of b.y) (size_of b.x))

-- a place in three parts
record InParts (levels rows row n : ℕ) : Type 0 where
  k : ℕ
  a : ℕ
  x : ℕ
  is : n ≡ (k * rows + a) * row + x
  high : k < levels
  wide : a < rows
  long : x < row

-- each place has them
in_parts : (levels rows row n : ℕ) → n < levels * rows * row → InParts levels rows row n
in_parts levels rows row n h =
    let some_row : 0 < row = some_factor n (levels * rows) row h in
    let q : n / row < levels * rows = (div-lt_iff_lt-mul some_row).1 h in
    let some_rows : 0 < rows = some_factor (n / row) levels rows q in
    record {
      k = n / row / rows;
      a = n / row % rows;
      x = n % row;
      is = whole (n / row) rows (n % row) row n (mod-add-div' (n / row) rows) (mod-add-div' n row);
      high = (div-lt_iff_lt-mul some_rows).1 q;
      wide = mod-lt (n / row) some_rows;
      long = mod-lt n some_row;
    }
  where
    whole : (q rows x row n : ℕ) → q % rows + q / rows * rows ≡ q → x + q * row ≡ n → n ≡ (q / rows * rows + q % rows) * row + x
    whole q rows x row n e h =
        let same : q / rows * rows + q % rows ≡ q = omega (arith, e) in
        let times : (q / rows * rows + q % rows) * row ≡ q * row = ap (λ (m : ℕ). m * row) same in
        omega (arith, times, h)

module _ (plan : Plan) (split : Split) (d p : ℕ) (m : Memory) (f : ℕ) (level : IsLevel plan f) where
  -- the memory's box
  abbrev box : Box
  box = memory_box plan split d p f

  -- a cell so far from the low ends is kept
  far_kept : (k a x : ℕ) → k < nz plan f → a < size_of box.y → x < size_of box.x → IsKeptCell plan split d p (far_cell f box (1 + k) a x)
  far_kept k a x h j i = record {
    field = level;
    within = record {
      level = (omega arith, omega (arith, h));
      within = and_both (in_span box.y (box.y.low +ℤ pos a)) (in_span box.x (box.x.low +ℤ pos x)) (span-holds box.y a j) (span-holds box.x x i);
    };
  }

  -- and stands at that place
  far_place : (k a x : ℕ) → kept_place plan split d p (far_cell f box (1 + k) a x) ≡ (k * size_of box.y + a) * size_of box.x + x
  far_place k a x =
      let down : (1 + k) - 1 ≡ k = omega arith in
      λ n. (down n * size_of box.y + far_is box.y.low a n) * size_of box.x + far_is box.x.low x n

  -- the numbers of the cells, by place
  number_at : (k a x : ℕ) → k < nz plan f → a < size_of box.y → x < size_of box.x →
      get_or (map (cell_number m) (cells_in plan f box)) ((k * size_of box.y + a) * size_of box.x + x) (pos 0) ≡ cell_number m (far_cell f box (1 + k) a x)
  number_at k a x h j i =
      get_or-map (cell_number m) (cells_in plan f box) ((k * size_of box.y + a) * size_of box.x + x) (far_cell f box 0 0 0) (pos 0)
      (subst (λ (n : ℕ). (k * size_of box.y + a) * size_of box.x + x < n) (sym (length-cells plan f box)) (place_below k a x (nz plan f) (size_of box.y) (size_of box.x) h j i))
      ∙ ap (cell_number m) (get_or-cells plan f box k a x (far_cell f box 0 0 0) h j i)

  -- the list of a level
  list_is : (lists : List (List ℤ)) → ShowsMemory plan split d p lists m → level_kept lists f ≡ map (cell_number m) (cells_in plan f box)
  unfolding kept_at
  list_is lists shows =
      ext_get_or (pos 0) (level_kept lists f) (map (cell_number m) (cells_in plan f box)) (shows.sizes f level ∙ sym (length-kept plan f box) ∙ sym (length-map (cells_in plan f box) (cell_number m))) (λ n h.
      let w : InParts (nz plan f) (size_of box.y) (size_of box.x) n = in_parts (nz plan f) (size_of box.y) (size_of box.x) n (subst (λ (l : ℕ). n < l) (shows.sizes f level) h) in
      ap (λ (i : ℕ). get_or (level_kept lists f) i (pos 0)) (w.is ∙ sym (far_place w.k w.a w.x))
      ∙ shows.holds (far_cell f box (1 + w.k) w.a w.x) (far_kept w.k w.a w.x w.high w.wide w.long)
      ∙ sym (number_at w.k w.a w.x w.high w.wide w.long)
      ∙ ap (λ (i : ℕ). get_or (map (cell_number m) (cells_in plan f box)) i (pos 0)) (sym w.is))

-- the law on the order
pub in_order : ListsHaveTheCellsInOrder
in_order plan split d p lists m f shows level = list_is plan split d p m f level lists shows

-- the number that such lists have at a cell
number_back : (plan : Plan) (split : Split) (d p : ℕ) (m : Memory) (c : Cell) → IsKeptCell plan split d p c →
    get_or (map (cell_number m) (cells_in plan c.field (memory_box plan split d p c.field))) (kept_place plan split d p c) (pos 0) ≡ cell_number m c
number_back plan split d p m c h =
    let b : Box = memory_box plan split d p c.field in
    let w : Parts plan split d p c = parts plan split d p c h in
    let up : 1 + (c.k - 1) ≡ c.k = let l = (h.within).level in omega (arith, l.0) in
    let y = (span-at b.y c.j (and_left (in_span b.y c.j) _ (h.within).within)).1 in
    let x = (span-at b.x c.i (and_right (in_span b.y c.j) _ (h.within).within)).1 in
    number_at plan split d p m c.field h.field (c.k - 1) (unsigned_abs (c.j -ℤ b.y.low)) (unsigned_abs (c.i -ℤ b.x.low)) w.k w.j w.i
    ∙ (λ n. m c.field (up n) (y n) (x n))

-- the law on lists of the cells
pub of_cells : ListsOfTheCellsShow
unfolding kept_at
of_cells plan split d p lists m levels each = record {
  levels = levels;
  sizes = λ f l. ap (λ (xs : List ℤ). length xs) (each f l) ∙ length-map (cells_in plan f (memory_box plan split d p f)) (cell_number m) ∙ length-kept plan f (memory_box plan split d p f);
  holds = λ c h. ap (λ (xs : List ℤ). get_or xs (kept_place plan split d p c) (pos 0)) (each c.field h.field) ∙ number_back plan split d p m c h;
}

-- lists joined, by number
joined : (lists : List (List ℤ)) (f : ℕ → List ℤ) (a : ℕ) → ((n : ℕ) → n < length lists → get_or lists n [] ≡ f (a + n)) → flat_map (λ xs. xs) lists ≡ flat_map f (range_with_len a (length lists))
joined [] f a each = refl
joined (xs ∷ lists) f a each =
    let first : xs ≡ f a = each 0 (omega arith) ∙ ap f (omega arith) in
    ap (λ (ys : List ℤ). ys ++ flat_map (λ zs. zs) lists) first
    ∙ ap (λ (ys : List ℤ). f a ++ ys) (joined lists f (a + 1) (λ n h. each (suc n) (omega (arith, h)) ∙ ap f (omega arith)))

-- the law on all lists
pub all_cells_in_order : ListsHaveAllCells
all_cells_in_order plan split d p lists m shows =
    joined lists (λ f. map (cell_number m) (cells_in plan f (memory_box plan split d p f))) 0
    (λ n h. let level : IsLevel plan n = subst (λ (l : ℕ). n < l) shows.levels h in in_order plan split d p lists m n shows level ∙ ap (λ (f : ℕ). map (cell_number m) (cells_in plan f (memory_box plan split d p f))) (omega arith))
    ∙ ap (λ (n : ℕ). flat_map (λ f. map (cell_number m) (cells_in plan f (memory_box plan split d p f))) (range_with_len 0 n)) shows.levels
    ∙ sym (map_flat (cell_number m) (λ f. cells_in plan f (memory_box plan split d p f)) (levels_of plan))

-- the law on count and sum
pub summed : ListsAreSummed
summed plan split d p lists m shows =
    let all = all_cells_in_order plan split d p lists m shows in
    record {
      count = sym (ap (λ (xs : List ℤ). length xs) all ∙ length-map (patch_cells plan split d p) (cell_number m));
      sum = sym (ap (λ (xs : List ℤ). fold (λ t v. t +ℤ v) (pos 0) xs) all ∙ fold-map (λ t v. t +ℤ v) (cell_number m) (pos 0) (patch_cells plan split d p));
    }
