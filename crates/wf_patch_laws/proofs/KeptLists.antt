-- Lists of the cells of a memory box.
use Rattle.std.proofs.Common.{◌≡◌, ⊎_elim, ℕ, ◌+◌, ◌-◌, ◌*◌, ◌/◌, ◌%◌, ◌≤◌, ◌<◌, Bool, List, [], length, set, sym, ap, ◌∙◌, subst, arith}
use Rattle.std.proofs.Math.Nat.{mul_assoc}
use Rattle.std.proofs.lemmas.Nat.{div-mul-add, mod-mul-add}
use Rattle.std.proofs.lemmas.Int.{ints}
use Rattle.std.proofs.lemmas.List.{get_or-set_same, get_or-set_other, length-set}
use Rattle.std.specs.Prelude.{ℤ, pos, ◌+ℤ◌, ◌-ℤ◌, unsigned_abs, unwrap_or, slice_index_or, if◌then◌else◌}
use Rattle.wf_model.specs.declared.plan.Plan.{Plan}
use Rattle.wf_model.specs.Plans.{nz}
use Rattle.wf_model.specs.Patches.{Split, Box, Cell, in_span, size_of, memory_box, kept_at}
use Rattle.wf_model.specs.Exchange.{same_cell}
use Rattle.wf_model.specs.PatchEffect.{after_setting}
use Rattle.wf_model.specs.Agreement.{cell_number}
use Rattle.wf_model.specs.Kept.{IsKeptCell, kept_size, kept_place, level_kept}
use Rattle.wf_laws.proofs.Bools.{and_left, and_right, split_bool, differ, equal_or_not}
use Rattle.wf_laws.proofs.Fetch.{same_cell-equal, same_cell-same}
use Rattle.wf_laws.proofs.Cells.{span-at}
use Rattle.wf_laws.proofs.BoxCells.{place_below}
use Rattle.wf_patch_laws.specs.Memory.{CellsHavePlaces, PlacesTellCells, NumbersAreReadAtPlaces, OneCellIsSet, SettingsAreShown, MemoriesAreShownAlike}

-- a place in rows tells the row
row_same : (a b c e m : ℕ) → b < m → e < m → a * m + b ≡ c * m + e → a ≡ c
row_same a b c e m l h same = sym (div-mul-add a m b l) ∙ ap (λ (n : ℕ). n / m) same ∙ div-mul-add c m e h

-- and the place in it
rest_same : (a b c e m : ℕ) → b < m → e < m → a * m + b ≡ c * m + e → b ≡ e
rest_same a b c e m l h same = sym (mod-mul-add a m b l) ∙ ap (λ (n : ℕ). n % m) same ∙ mod-mul-add c m e h

-- a number so far from another one
pub far_is : (a : ℤ) (n : ℕ) → unsigned_abs ((a +ℤ pos n) -ℤ a) ≡ n
far_is a n = omega (arith, ints)

module _ (plan : Plan) (split : Split) (d p : ℕ) where
  -- how many rows a level has
  abbrev rows_of : ℕ → ℕ
  rows_of f = size_of (memory_box plan split d p f).y

  -- and how many cells a row
  abbrev row_of : ℕ → ℕ
  row_of f = size_of (memory_box plan split d p f).x

  -- the place of a cell in its three parts
  pub record Parts (c : Cell) : Type 0 where
    pub k : c.k - 1 < nz plan c.field
    pub j : unsigned_abs (c.j -ℤ (memory_box plan split d p c.field).y.low) < rows_of c.field
    pub i : unsigned_abs (c.i -ℤ (memory_box plan split d p c.field).x.low) < row_of c.field

  -- they lie within the sizes
  pub parts : (c : Cell) → IsKeptCell plan split d p c → Parts c
  parts c h = record {
    k = let w = (h.within).level in omega (arith, w.0, w.1);
    j = (span-at (memory_box plan split d p c.field).y c.j (and_left (in_span (memory_box plan split d p c.field).y c.j) _ (h.within).within)).0;
    i = (span-at (memory_box plan split d p c.field).x c.i (and_right (in_span (memory_box plan split d p c.field).y c.j) _ (h.within).within)).0;
  }

-- the law on places
pub have_places : CellsHavePlaces
have_places plan split d p c h =
    let b : Box = memory_box plan split d p c.field in
    let w : Parts plan split d p c = parts plan split d p c h in
    subst (λ (n : ℕ). kept_place plan split d p c < n) (sym (mul_assoc (nz plan c.field) (size_of b.y) (size_of b.x)))
    (place_below (c.k - 1) (unsigned_abs (c.j -ℤ b.y.low)) (unsigned_abs (c.i -ℤ b.x.low)) (nz plan c.field) (size_of b.y) (size_of b.x) w.k w.j w.i)

-- two cells of one level at one place
same_level_cell : (plan : Plan) (split : Split) (d p f k j2 : ℕ) (j i y x : ℤ) → IsKeptCell plan split d p (record { field = f; k = k; j = j; i = i }) → IsKeptCell plan split d p (record { field = f; k = j2; j = y; i = x }) →
    kept_place plan split d p (record { field = f; k = k; j = j; i = i }) ≡ kept_place plan split d p (record { field = f; k = j2; j = y; i = x }) → (k ≡ j2) × (j ≡ y) × (i ≡ x)
same_level_cell plan split d p f k j2 j i y x g h same =
    let b : Box = memory_box plan split d p f in
    let v : Parts plan split d p (record { field = f; k = k; j = j; i = i }) = parts plan split d p _ g in
    let w : Parts plan split d p (record { field = f; k = j2; j = y; i = x }) = parts plan split d p _ h in
    let row = row_same ((k - 1) * size_of b.y + unsigned_abs (j -ℤ b.y.low)) (unsigned_abs (i -ℤ b.x.low)) ((j2 - 1) * size_of b.y + unsigned_abs (y -ℤ b.y.low)) (unsigned_abs (x -ℤ b.x.low)) (size_of b.x) v.i w.i same in
    let far_x = rest_same ((k - 1) * size_of b.y + unsigned_abs (j -ℤ b.y.low)) (unsigned_abs (i -ℤ b.x.low)) ((j2 - 1) * size_of b.y + unsigned_abs (y -ℤ b.y.low)) (unsigned_abs (x -ℤ b.x.low)) (size_of b.x) v.i w.i same in
    let level = row_same (k - 1) (unsigned_abs (j -ℤ b.y.low)) (j2 - 1) (unsigned_abs (y -ℤ b.y.low)) (size_of b.y) v.j w.j row in
    let far_y = rest_same (k - 1) (unsigned_abs (j -ℤ b.y.low)) (j2 - 1) (unsigned_abs (y -ℤ b.y.low)) (size_of b.y) v.j w.j row in (
      one_more k j2 (g.within).level.0 (h.within).level.0 level,
      sym ((span-at b.y j (and_left (in_span b.y j) _ (g.within).within)).1) ∙ ap (λ (n : ℕ). b.y.low +ℤ pos n) far_y ∙ (span-at b.y y (and_left (in_span b.y y) _ (h.within).within)).1,
      sym ((span-at b.x i (and_right (in_span b.y j) _ (g.within).within)).1) ∙ ap (λ (n : ℕ). b.x.low +ℤ pos n) far_x ∙ (span-at b.x x (and_right (in_span b.y y) _ (h.within).within)).1,
    )
  where
    one_more : (a b : ℕ) → 1 ≤ a → 1 ≤ b → a - 1 ≡ b - 1 → a ≡ b
    one_more a b l h e = omega arith

-- the law on cells at one place
pub tell_cells : PlacesTellCells
tell_cells plan split d p a b g h field same = by a.field b.field field a.k b.k a.j b.j a.i b.i g h same
  where
    by : (f e : ℕ) → f ≡ e → (k l : ℕ) (j y i x : ℤ) → IsKeptCell plan split d p (record { field = f; k = k; j = j; i = i }) → IsKeptCell plan split d p (record { field = e; k = l; j = y; i = x }) →
        kept_place plan split d p (record { field = f; k = k; j = j; i = i }) ≡ kept_place plan split d p (record { field = e; k = l; j = y; i = x }) →
        (let c : Cell = record { field = f; k = k; j = j; i = i } in c) ≡ record { field = e; k = l; j = y; i = x }
    by f e w k l j y i x g h same =
        let g2 = subst (λ (n : ℕ). IsKeptCell plan split d p (record { field = n; k = k; j = j; i = i })) w g in
        let s2 = subst (λ (n : ℕ). kept_place plan split d p (record { field = n; k = k; j = j; i = i }) ≡ kept_place plan split d p (record { field = e; k = l; j = y; i = x })) w same in
        let r = same_level_cell plan split d p e k l j i y x g2 h s2 in
        λ n. record { field = w n; k = r.0 n; j = r.1 n; i = r.2 n }

-- the law on reading
pub read_at : NumbersAreReadAtPlaces
unfolding kept_at
read_at plan split d p lists m c shows h = shows.holds c h

-- the law on settings
pub settings_shown : SettingsAreShown
unfolding after_setting
settings_shown plan split d p s old new m shows exact = record {
  levels = exact.levels ∙ shows.levels;
  sizes = λ f l. exact.sizes f l ∙ shows.sizes f l;
  holds = λ c h. exact.numbers c h ∙ ap (λ (v : ℤ). if s.sets c.field c.k c.j c.i then unwrap_or (s.value c.field c.k c.j c.i) (pos 0) else v) (shows.holds c h);
}

-- the law on functions that hold alike
pub shown_alike : MemoriesAreShownAlike
shown_alike plan split d p lists m n shows = record {
  shown = λ alike. record { levels = shows.levels; sizes = shows.sizes; holds = λ c h. shows.holds c h ∙ alike c h };
  alike = λ other c h. sym (shows.holds c h) ∙ other.holds c h;
}

-- the list of a level, where one level's list is set
level_other : (lists : List (List ℤ)) (f g : ℕ) (xs : List ℤ) → (g ≡ f → ⊥) → level_kept (set lists f xs) g ≡ level_kept lists g
level_other lists f g xs apart = get_or-set_other lists f g xs [] apart

-- and the one that is set
level_same : (lists : List (List ℤ)) (f : ℕ) (xs : List ℤ) → f < length lists → level_kept (set lists f xs) f ≡ xs
level_same lists f xs h = get_or-set_same lists f xs [] h

-- the law on one cell
pub one_set : OneCellIsSet
unfolding kept_at
one_set plan split d p lists m c v shows h =
    let xs : List ℤ = level_kept lists c.field in
    let at : ℕ = kept_place plan split d p c in
    let in_lists : c.field < length lists = subst (λ (n : ℕ). c.field < n) (sym shows.levels) h.field in
    let in_list : at < length xs = subst (λ (n : ℕ). at < n) (sym (shows.sizes c.field h.field)) (have_places plan split d p c h) in
    record {
      levels = length-set lists c.field (set xs at v) ∙ shows.levels;
      sizes = λ f l. ⊎_elim
          (λ e. subst (λ (g : ℕ). length (level_kept (set lists c.field (set xs at v)) g) ≡ kept_size plan split d p g) (sym e) (ap (λ (ys : List ℤ). length ys) (level_same lists c.field (set xs at v) in_lists) ∙ length-set xs at v ∙ shows.sizes c.field h.field))
          (λ e. ap (λ (ys : List ℤ). length ys) (level_other lists c.field f (set xs at v) e) ∙ shows.sizes f l)
          (equal_or_not f c.field);
      holds = λ x k. ⊎_elim
          (λ same. let e : c ≡ x = same_cell-equal c x same in
          subst (λ (y : Cell). slice_index_or (level_kept (set lists c.field (set xs at v)) y.field) (kept_place plan split d p y) (pos 0) ≡ (if same_cell c y then v else cell_number m y)) e
          (ap (λ (ys : List ℤ). slice_index_or ys at (pos 0)) (level_same lists c.field (set xs at v) in_lists) ∙ get_or-set_same xs at v (pos 0) in_list
          ∙ sym (ap (λ (b : Bool). if b then v else cell_number m c) (same_cell-same c))))
          (λ other. ⊎_elim
          (λ e. ap (λ (ys : List ℤ). slice_index_or ys (kept_place plan split d p x) (pos 0)) (ap (λ (g : ℕ). level_kept (set lists c.field (set xs at v)) g) e ∙ level_same lists c.field (set xs at v) in_lists)
          ∙ get_or-set_other xs at (kept_place plan split d p x) v (pos 0) (λ w. differ (sym (ap (λ (y : Cell). same_cell c y) (tell_cells plan split d p x c k h e w) ∙ same_cell-same c) ∙ other))
          ∙ ap (λ (g : ℕ). slice_index_or (level_kept lists g) (kept_place plan split d p x) (pos 0)) (sym e)
          ∙ shows.holds x k ∙ sym (ap (λ (b : Bool). if b then v else cell_number m x) other))
          (λ e. ap (λ (ys : List ℤ). slice_index_or ys (kept_place plan split d p x) (pos 0)) (level_other lists c.field x.field (set xs at v) e)
          ∙ shows.holds x k ∙ sym (ap (λ (b : Bool). if b then v else cell_number m x) other))
          (equal_or_not x.field c.field))
          (split_bool (same_cell c x));
    }
