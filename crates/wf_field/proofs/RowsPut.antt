-- A row that is set: which cells have which numbers.
use Rattle.std.proofs.Common.{◌≡◌, ◌⊎◌, ⊎_elim, inl, inr, ℕ, ◌+◌, ◌-◌, ◌*◌, ◌/◌, ◌%◌, ◌≤◌, ◌<◌, Bool, true, false, List, [], ◌++◌, length, get_or, set, take, drop, refl, sym, ap, subst, ◌∙◌, arith}
use Rattle.std.proofs.lemmas.Int.{ints}
use Rattle.std.proofs.lemmas.List.{get_or-take, get_or-drop, get_or-append-add, length-take-le, length-append, length-drop, length-set}
use Rattle.std.proofs.lemmas.List.Folds.{list_any-append}
use Rattle.std.proofs.Math.ListN.{get_or-append}
use Rattle.std.specs.Prelude.{ℤ, pos, ◌+ℤ◌, ◌-ℤ◌, ◌≤ℤ◌, ◌||◌, unsigned_abs, if◌then◌else◌}
use Rattle.std.specs.List.{range_with_len, list_any}
use Rattle.wf_model.specs.Patches.{Cell}
use Rattle.wf_model.specs.Exchange.{same_cell}
use Rattle.wf_laws.proofs.Bools.{split_bool, differ, equal_or_not}
use Rattle.wf_laws.proofs.Members.{In, In-map, In-map_out, In-range, In-range_out, In-list_any, list_any-In}
use Rattle.wf_laws.proofs.Fetch.{same_cell-equal, same_cell-same}
use Rattle.wf_boxes.specs.declared.places.LevelBox.{LevelBox}
use Rattle.wf_boxes.specs.Places.{IsFrom, IsCellOf, IsRowOf, place_of}
use Rattle.wf_boxes.proofs.Placing.{row_fits}
use Rattle.wf_model.specs.Kept.{level_kept}
use Rattle.std.proofs.lemmas.Nat.{div-mul-add, mod-mul-add}
use Rattle.wf_field.specs.Kept.{IsLevelOf, box_at}
use Rattle.wf_field.specs.Settings.{cell_at}
use Rattle.wf_field.specs.Rows.{with_row, row_cells, number_of, IsBoxCell, SetsCells}
use Rattle.wf_field.proofs.Changing.{level_same, level_other, sizes_stay}

-- ---- a list with other numbers from a place on

pub length-with_row : (xs ys : List ℤ) (at : ℕ) → at + length ys ≤ length xs → length (with_row xs at ys) ≡ length xs
length-with_row xs ys at h =
    let a : length (take at xs) ≡ at = length-take-le at xs (omega arith) in
    omega (arith, length-append (take at xs) (ys ++ drop (at + length ys) xs), length-append ys (drop (at + length ys) xs), a, length-drop (at + length ys) xs)

-- the numbers that are set
pub get_or-with_row : (xs ys : List ℤ) (at m : ℕ) → at + length ys ≤ length xs → m < length ys → get_or (with_row xs at ys) (at + m) (pos 0) ≡ get_or ys m (pos 0)
get_or-with_row xs ys at m h l =
    let a : length (take at xs) ≡ at = length-take-le at xs (omega arith) in
    ap (λ (n : ℕ). get_or (with_row xs at ys) (n + m) (pos 0)) (sym a)
    ∙ get_or-append-add (take at xs) (ys ++ drop (at + length ys) xs) m (pos 0)
    ∙ get_or-append ys (drop (at + length ys) xs) (pos 0) m l

-- those before
get_or-before : (xs ys : List ℤ) (at q : ℕ) → at + length ys ≤ length xs → q < at → get_or (with_row xs at ys) q (pos 0) ≡ get_or xs q (pos 0)
get_or-before xs ys at q h l =
    let a : length (take at xs) ≡ at = length-take-le at xs (omega arith) in
    get_or-append (take at xs) (ys ++ drop (at + length ys) xs) (pos 0) q (omega arith) ∙ get_or-take at xs q (pos 0) l

-- and those behind
get_or-behind : (xs ys : List ℤ) (at r : ℕ) → at + length ys ≤ length xs → get_or (with_row xs at ys) (at + (length ys + r)) (pos 0) ≡ get_or xs (at + length ys + r) (pos 0)
get_or-behind xs ys at r h =
    let a : length (take at xs) ≡ at = length-take-le at xs (omega arith) in
    ap (λ (n : ℕ). get_or (with_row xs at ys) (n + (length ys + r)) (pos 0)) (sym a)
    ∙ get_or-append-add (take at xs) (ys ++ drop (at + length ys) xs) (length ys + r) (pos 0)
    ∙ get_or-append-add ys (drop (at + length ys) xs) r (pos 0)
    ∙ get_or-drop (at + length ys) xs r (pos 0)

-- a place that is not among those set
pub get_or-others : (xs ys : List ℤ) (at q : ℕ) → at + length ys ≤ length xs → ((m : ℕ) → m < length ys → q ≡ at + m → ⊥) → get_or (with_row xs at ys) q (pos 0) ≡ get_or xs q (pos 0)
get_or-others xs ys at q h none =
    ⊎_elim
    (λ l. get_or-before xs ys at q h l)
    (λ g. ⊎_elim
    (λ l. absurd (none (q - at) (omega arith) (omega arith)))
    (λ b.
    let r : ℕ = q - at - length ys in
    let e : q ≡ at + (length ys + r) = omega arith in
    let f : at + length ys + r ≡ q = omega arith in
    ap (λ (n : ℕ). get_or (with_row xs at ys) n (pos 0)) e ∙ get_or-behind xs ys at r h ∙ ap (λ (n : ℕ). get_or xs n (pos 0)) f)
    (less_or q (at + length ys)))
    (less_or q at)
  where
    less_or : (a b : ℕ) → (a < b) ⊎ (b ≤ a)
    less_or a b = grind arith

-- ---- places of the cells of a row

-- each further cell of a row stands one further
pub place_further : (s : LevelBox) (k m : ℕ) (j i : ℤ) → s.west ≤ℤ i → place_of s k j (i +ℤ pos m) ≡ place_of s k j i + m
place_further s k m j i h =
    let e : unsigned_abs ((i +ℤ pos m) -ℤ s.west) ≡ unsigned_abs (i -ℤ s.west) + m = omega (arith, ints) in
    ap (λ (x : ℕ). ((k - 1) * s.rows + unsigned_abs (j -ℤ s.south)) * s.columns + x) e
    ∙ assoc (((k - 1) * s.rows + unsigned_abs (j -ℤ s.south)) * s.columns) (unsigned_abs (i -ℤ s.west)) m
  where
    assoc : (a b c : ℕ) → a + (b + c) ≡ a + b + c
    assoc a b c = omega arith

-- a place in rows tells the row
row_same : (a b c e m : ℕ) → b < m → e < m → a * m + b ≡ c * m + e → a ≡ c
row_same a b c e m l h same = sym (div-mul-add a m b l) ∙ ap (λ (n : ℕ). n / m) same ∙ div-mul-add c m e h

-- and the place in it
rest_same : (a b c e m : ℕ) → b < m → e < m → a * m + b ≡ c * m + e → b ≡ e
rest_same a b c e m l h same = sym (mod-mul-add a m b l) ∙ ap (λ (n : ℕ). n % m) same ∙ mod-mul-add c m e h

-- how far a number stands from the first
far : (low c : ℤ) (n : ℕ) → IsFrom low n c → unsigned_abs (c -ℤ low) < n
far low c n h = let a = h.0 in let b = h.1 in omega (arith, ints)

back : (low c : ℤ) (n : ℕ) → IsFrom low n c → low +ℤ pos (unsigned_abs (c -ℤ low)) ≡ c
back low c n h = let a = h.0 in omega (arith, ints)

-- cells of a level at one place are one
pub tells : (s : LevelBox) (k l : ℕ) (j i y x : ℤ) → IsCellOf s k j i → IsCellOf s l y x → place_of s k j i ≡ place_of s l y x → (k ≡ l) × (j ≡ y) × (i ≡ x)
tells s k l j i y x g h same =
    let row = row_same ((k - 1) * s.rows + unsigned_abs (j -ℤ s.south)) (unsigned_abs (i -ℤ s.west)) ((l - 1) * s.rows + unsigned_abs (y -ℤ s.south)) (unsigned_abs (x -ℤ s.west)) s.columns (far s.west i s.columns g.column) (far s.west x s.columns h.column) same in
    let column = rest_same ((k - 1) * s.rows + unsigned_abs (j -ℤ s.south)) (unsigned_abs (i -ℤ s.west)) ((l - 1) * s.rows + unsigned_abs (y -ℤ s.south)) (unsigned_abs (x -ℤ s.west)) s.columns (far s.west i s.columns g.column) (far s.west x s.columns h.column) same in
    let level = row_same (k - 1) (unsigned_abs (j -ℤ s.south)) (l - 1) (unsigned_abs (y -ℤ s.south)) s.rows (far s.south j s.rows g.row) (far s.south y s.rows h.row) row in
    let line = rest_same (k - 1) (unsigned_abs (j -ℤ s.south)) (l - 1) (unsigned_abs (y -ℤ s.south)) s.rows (far s.south j s.rows g.row) (far s.south y s.rows h.row) row in (
      one_more k l (g.level).0 (h.level).0 level,
      sym (back s.south j s.rows g.row) ∙ ap (λ (n : ℕ). s.south +ℤ pos n) line ∙ back s.south y s.rows h.row,
      sym (back s.west i s.columns g.column) ∙ ap (λ (n : ℕ). s.west +ℤ pos n) column ∙ back s.west x s.columns h.column,
    )
  where
    one_more : (a b : ℕ) → 1 ≤ a → 1 ≤ b → a - 1 ≡ b - 1 → a ≡ b
    one_more a b l h e = omega arith

-- a cell of a row is one of the level's box
pub row_cell : (s : LevelBox) (k m n : ℕ) (j i : ℤ) → IsRowOf s k j i n → m < n → IsCellOf s k j (i +ℤ pos m)
row_cell s k m n j i is h =
    let low = is.low in
    let high = is.high in
    record { level = is.level; row = is.row; column = (omega (arith, ints), omega (arith, ints)) }

-- ---- lists of which some cells are set

-- no cells
pub none_set : (boxes : List LevelBox) (v : Cell → ℤ) (lists : List (List ℤ)) → SetsCells boxes v [] lists lists
none_set boxes v lists = record { levels = refl; sizes = λ f. refl; numbers = λ c h. refl }

-- some and then others
pub both_set : (boxes : List LevelBox) (v : Cell → ℤ) (cs ds : List Cell) (a b c : List (List ℤ)) → SetsCells boxes v cs a b → SetsCells boxes v ds b c → SetsCells boxes v (cs ++ ds) a c
both_set boxes v cs ds a b c one two = record {
  levels = two.levels ∙ one.levels;
  sizes = λ f. two.sizes f ∙ one.sizes f;
  numbers = λ x h.
      two.numbers x h ∙ ap (λ (n : ℤ). if list_any (same_cell x) ds then v x else n) (one.numbers x h)
      ∙ joined (list_any (same_cell x) cs) (list_any (same_cell x) ds) (v x) (number_of boxes a x)
      ∙ ap (λ (t : Bool). if t then v x else number_of boxes a x) (sym (list_any-append (same_cell x) cs ds));
}
  where
    joined : (s t : Bool) (x y : ℤ) → (if t then x else (if s then x else y)) ≡ (if s || t then x else y)
    joined true true x y = refl
    joined true false x y = refl
    joined false true x y = refl
    joined false false x y = refl

-- the same cells by another list
pub set_same : (boxes : List LevelBox) (v : Cell → ℤ) (cs ds : List Cell) (a b : List (List ℤ)) → cs ≡ ds → SetsCells boxes v cs a b → SetsCells boxes v ds a b
set_same boxes v cs ds a b e h = subst (λ (xs : List Cell). SetsCells boxes v xs a b) e h

-- a row of a level
pub row_set : (boxes : List LevelBox) (v : Cell → ℤ) (lists : List (List ℤ)) (f k : ℕ) (j i : ℤ) (ys : List ℤ) → IsLevelOf boxes lists f → IsRowOf (box_at boxes f) k j i (length ys) →
    ((m : ℕ) → m < length ys → get_or ys m (pos 0) ≡ v (cell_at f k j (i +ℤ pos m))) →
    SetsCells boxes v (row_cells f k j i (length ys)) lists (set lists f (with_row (level_kept lists f) (place_of (box_at boxes f) k j i) ys))
row_set boxes v lists f k j i ys level row values =
    let s : LevelBox = box_at boxes f in
    let xs : List ℤ = level_kept lists f in
    let at : ℕ = place_of s k j i in
    let cells : List Cell = row_cells f k j i (length ys) in
    let fits : at + length ys ≤ length xs = subst (λ (n : ℕ). at + length ys ≤ n) (sym level.size) (row_fits s k (length ys) j i row) in
    let long : length (with_row xs at ys) ≡ length xs = length-with_row xs ys at fits in
    let member : (m : ℕ) → m < length ys → In (cell_at f k j (i +ℤ pos m)) cells = λ m h. In-map (λ (n : ℕ). cell_at f k j (i +ℤ pos n)) m (range_with_len 0 (length ys)) (In-range m 0 (length ys) (omega arith) (omega arith)) in
    record {
      levels = length-set lists f (with_row xs at ys);
      sizes = λ g. sizes_stay lists f (with_row xs at ys) level.list long g;
      numbers = λ c h. ⊎_elim
          (λ any.
          let w = In-list_any (same_cell c) cells any in
          let is : c ≡ w.0 = same_cell-equal c w.0 w.2 in
          let r = In-map_out (λ (n : ℕ). cell_at f k j (i +ℤ pos n)) w.0 (range_with_len 0 (length ys)) w.1 in
          let small = In-range_out r.0 0 (length ys) r.1 in
          let m : ℕ = r.0 in
          let l : m < length ys = omega (arith, small.1) in
          let cell : c ≡ cell_at f k j (i +ℤ pos m) = is ∙ r.2 in
          subst (λ (x : Cell). number_of boxes (set lists f (with_row xs at ys)) x ≡ (if list_any (same_cell x) cells then v x else number_of boxes lists x)) (sym cell)
          (ap (λ (zs : List ℤ). get_or zs (place_of s k j (i +ℤ pos m)) (pos 0)) (level_same lists f (with_row xs at ys) level.list)
          ∙ ap (λ (n : ℕ). get_or (with_row xs at ys) n (pos 0)) (place_further s k m j i row.low)
          ∙ get_or-with_row xs ys at m fits l ∙ values m l
          ∙ sym (ap (λ (t : Bool). if t then v (cell_at f k j (i +ℤ pos m)) else number_of boxes lists (cell_at f k j (i +ℤ pos m))) (list_any-In (same_cell (cell_at f k j (i +ℤ pos m))) (cell_at f k j (i +ℤ pos m)) cells (member m l) (same_cell-same (cell_at f k j (i +ℤ pos m)))))))
          (λ none. other c h none (equal_or_not c.field f))
          (split_bool (list_any (same_cell c) cells));
    }
  where
    -- a cell that is not of the row
    other : (c : Cell) → IsBoxCell boxes c → list_any (same_cell c) (row_cells f k j i (length ys)) ≡ false → (c.field ≡ f) ⊎ (c.field ≡ f → ⊥) →
        number_of boxes (set lists f (with_row (level_kept lists f) (place_of (box_at boxes f) k j i) ys)) c ≡ (if list_any (same_cell c) (row_cells f k j i (length ys)) then v c else number_of boxes lists c)
    other c h none (inl e) =
        let s : LevelBox = box_at boxes f in
        let xs : List ℤ = level_kept lists f in
        let at : ℕ = place_of s k j i in
        let cells : List Cell = row_cells f k j i (length ys) in
        let fits : at + length ys ≤ length xs = subst (λ (n : ℕ). at + length ys ≤ n) (sym level.size) (row_fits s k (length ys) j i row) in
        let here : IsCellOf s c.k c.j c.i = subst (λ (g : ℕ). IsCellOf (box_at boxes g) c.k c.j c.i) e h.cell in
        ap (λ (g : ℕ). get_or (level_kept (set lists f (with_row xs at ys)) g) (place_of (box_at boxes g) c.k c.j c.i) (pos 0)) e
        ∙ ap (λ (zs : List ℤ). get_or zs (place_of s c.k c.j c.i) (pos 0)) (level_same lists f (with_row xs at ys) level.list)
        ∙ get_or-others xs ys at (place_of s c.k c.j c.i) fits
        (λ m l same.
        let w = tells s c.k k c.j c.i j (i +ℤ pos m) here (row_cell s k m (length ys) j i row l) (same ∙ sym (place_further s k m j i row.low)) in
        let x : Cell = cell_at f k j (i +ℤ pos m) in
        let is : c ≡ x = λ n. cell_at (e n) (w.0 n) (w.1 n) (w.2 n) in
        let member : In x cells = In-map (λ (n : ℕ). cell_at f k j (i +ℤ pos n)) m (range_with_len 0 (length ys)) (In-range m 0 (length ys) (omega arith) (omega arith)) in
        differ (sym (list_any-In (same_cell c) x cells member (ap (λ (y : Cell). same_cell c y) (sym is) ∙ same_cell-same c)) ∙ none))
        ∙ ap (λ (g : ℕ). get_or (level_kept lists g) (place_of (box_at boxes g) c.k c.j c.i) (pos 0)) (sym e)
        ∙ sym (ap (λ (t : Bool). if t then v c else number_of boxes lists c) none)
    other c h none (inr apart) =
        let W : List ℤ = with_row (level_kept lists f) (place_of (box_at boxes f) k j i) ys in
        ap (λ (zs : List ℤ). get_or zs (place_of (box_at boxes c.field) c.k c.j c.i) (pos 0)) (level_other lists f c.field W apart)
        ∙ sym (ap (λ (t : Bool). if t then v c else number_of boxes lists c) none)
