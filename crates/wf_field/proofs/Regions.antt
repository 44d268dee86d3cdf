-- The cells of a region, row by row.
use Rattle.std.proofs.Common.{◌≡◌, ℕ, ◌+◌, ◌-◌, ◌*◌, ◌≤◌, ◌<◌, List, ◌++◌, length, get_or, sym, ap, subst, ◌∙◌, All, arith}
use Rattle.std.proofs.lemmas.Int.{ints}
use Rattle.std.proofs.Math.Nat.{mul_assoc}
use Rattle.std.proofs.lemmas.List.FromFn.{length-map-range_with_len}
use Rattle.std.specs.Prelude.{ℤ, pos, ◌+ℤ◌, ◌-ℤ◌, unsigned_abs}
use Rattle.std.specs.List.{range_with_len}
use Rattle.wf_model.specs.declared.plan.Plan.{Plan}
use Rattle.wf_model.specs.Patches.{Split, Cell}
use Rattle.wf_laws.proofs.Members.{In, In-map, In-map_out, In-range, In-range_out, In-flat_map, All-In, In-get_or}
use Rattle.wf_laws.proofs.Listing.{length-rows}
use Rattle.wf_rect.specs.declared.rects.Region.{Region}
use Rattle.wf_rect.specs.Tiles.{rows_of}
use Rattle.wf_boxes.proofs.Placing.{row_end}
use Rattle.wf_field.specs.Settings.{cell_at}
use Rattle.wf_field.specs.Rows.{row_cells, row_number, SetsKept}
use Rattle.wf_field.specs.Regions.{columns_of, plane_cells, planes_cells, region_cells, region_number}
use Rattle.wf_field.proofs.Joining.{flat_more, both_kept, cells_kept, numbers_kept}

-- what holds of each member
pub All-from : {X : Type 0} (P : X → Type 0) (xs : List X) → ((x : X) → In x xs → P x) → All P xs
All-from P xs h n d l = h (get_or xs n d) (In-get_or xs n d l)

module _ (f : ℕ) (r : Region) where
  abbrev rows : ℕ
  rows = rows_of r.rect

  abbrev columns : ℕ
  columns = columns_of r.rect

  length_plane : (a : ℕ) → length (plane_cells f (r.k0 + a) r.rect rows) ≡ rows * columns
  length_plane a = length-rows (λ y. row_cells f (r.k0 + a) (r.rect.j0 +ℤ pos y) r.rect.i0 columns) columns (λ y. length-map-range_with_len (λ m. cell_at f (r.k0 + a) (r.rect.j0 +ℤ pos y) (r.rect.i0 +ℤ pos m)) 0 columns) 0 rows

  -- how many cells it has
  pub length_region : length (region_cells f r) ≡ (r.k1 - r.k0) * rows * columns
  length_region = length-rows (λ a. plane_cells f (r.k0 + a) r.rect rows) (rows * columns) length_plane 0 (r.k1 - r.k0) ∙ sym (mul_assoc (r.k1 - r.k0) rows columns)

  -- a row of it lies within as many numbers
  pub row_inside : (n a y : ℕ) → length (region_cells f r) ≤ n → a < r.k1 - r.k0 → y < rows → (a * rows + y) * columns + columns ≤ n
  row_inside n a y h p q =
      let e : (a * rows + y) * columns + 0 + columns ≤ (r.k1 - r.k0) * rows * columns = row_end a y 0 columns (r.k1 - r.k0) rows columns p q (omega arith) in
      let z : (a * rows + y) * columns + 0 + columns ≡ (a * rows + y) * columns + columns = ap (λ (m : ℕ). m + columns) (add_zero ((a * rows + y) * columns)) in
      le_by z (subst (λ (m : ℕ). (a * rows + y) * columns + 0 + columns ≤ m) (sym length_region) e) h
    where
      add_zero : (m : ℕ) → m + 0 ≡ m
      add_zero m = omega arith

      le_by : {a b c d : ℕ} → a ≡ b → a ≤ c → c ≤ d → b ≤ d
      le_by e l m = omega (arith, e, l, m)

  -- a cell of a row is one of the region
  pub row_in : (a y m : ℕ) → a < r.k1 - r.k0 → y < rows → m < columns → In (cell_at f (r.k0 + a) (r.rect.j0 +ℤ pos y) (r.rect.i0 +ℤ pos m)) (region_cells f r)
  row_in a y m p q s =
      In-flat_map (λ (x : ℕ). plane_cells f (r.k0 + x) r.rect rows) (cell_at f (r.k0 + a) (r.rect.j0 +ℤ pos y) (r.rect.i0 +ℤ pos m)) a (range_with_len 0 (r.k1 - r.k0)) (In-range a 0 (r.k1 - r.k0) (omega arith) (omega arith))
      (In-flat_map (λ (x : ℕ). row_cells f (r.k0 + a) (r.rect.j0 +ℤ pos x) r.rect.i0 columns) (cell_at f (r.k0 + a) (r.rect.j0 +ℤ pos y) (r.rect.i0 +ℤ pos m)) y (range_with_len 0 rows) (In-range y 0 rows (omega arith) (omega arith))
      (In-map (λ (x : ℕ). cell_at f (r.k0 + a) (r.rect.j0 +ℤ pos y) (r.rect.i0 +ℤ pos x)) m (range_with_len 0 columns) (In-range m 0 columns (omega arith) (omega arith))))

  -- so what holds of the region's cells holds of a row's
  pub row_all : (P : Cell → Type 0) (a y n : ℕ) (j i : ℤ) → All P (region_cells f r) → a < r.k1 - r.k0 → y < rows → n ≡ columns → j ≡ r.rect.j0 +ℤ pos y → i ≡ r.rect.i0 → All P (row_cells f (r.k0 + a) j i n)
  row_all P a y n j i all p q en ej ei =
      subst (λ (z : ℕ). All P (row_cells f (r.k0 + a) j i z)) (sym en)
      (subst (λ (z : ℤ). All P (row_cells f (r.k0 + a) z i columns)) (sym ej) (subst (λ (z : ℤ). All P (row_cells f (r.k0 + a) (r.rect.j0 +ℤ pos y) z columns)) (sym ei)
      (All-from P (row_cells f (r.k0 + a) (r.rect.j0 +ℤ pos y) r.rect.i0 columns) (λ x h.
      let w = In-map_out (λ (m : ℕ). cell_at f (r.k0 + a) (r.rect.j0 +ℤ pos y) (r.rect.i0 +ℤ pos m)) x (range_with_len 0 columns) h in
      let small = In-range_out w.0 0 columns w.1 in
      subst P (sym w.2) (All-In P (cell_at f (r.k0 + a) (r.rect.j0 +ℤ pos y) (r.rect.i0 +ℤ pos w.0)) (region_cells f r) all (row_in a y w.0 p q (omega (arith, small.1))))))))

  module _ (plan : Plan) (split : Split) (d p : ℕ) (scratch : List ℤ) where
    -- a row more
    pub row_step : (a y : ℕ) (j i : ℤ) (ys : List ℤ) (old mid new : List (List ℤ)) → j ≡ r.rect.j0 +ℤ pos y → i ≡ r.rect.i0 → length ys ≡ columns →
        ((m : ℕ) → m < columns → get_or ys m (pos 0) ≡ get_or scratch ((a * rows + y) * columns + m) (pos 0)) →
        SetsKept plan split d p (region_number r scratch) (plane_cells f (r.k0 + a) r.rect y) old mid → SetsKept plan split d p (row_number i ys) (row_cells f (r.k0 + a) j i (length ys)) mid new →
        SetsKept plan split d p (region_number r scratch) (plane_cells f (r.k0 + a) r.rect (y + 1)) old new
    row_step a y j i ys old mid new ej ei en values before now =
        let row : List Cell = row_cells f (r.k0 + a) (r.rect.j0 +ℤ pos y) r.rect.i0 columns in
        let here : SetsKept plan split d p (row_number r.rect.i0 ys) row mid new =
        subst (λ (z : ℕ). SetsKept plan split d p (row_number r.rect.i0 ys) (row_cells f (r.k0 + a) (r.rect.j0 +ℤ pos y) r.rect.i0 z) mid new) en
        (subst (λ (z : ℤ). SetsKept plan split d p (row_number r.rect.i0 ys) (row_cells f (r.k0 + a) z r.rect.i0 (length ys)) mid new) ej
        (subst (λ (z : ℤ). SetsKept plan split d p (row_number z ys) (row_cells f (r.k0 + a) j z (length ys)) mid new) ei now)) in
        cells_kept plan split d p (region_number r scratch) (plane_cells f (r.k0 + a) r.rect y ++ row) (plane_cells f (r.k0 + a) r.rect (y + 1)) old new
        (sym (flat_more (λ x. row_cells f (r.k0 + a) (r.rect.j0 +ℤ pos x) r.rect.i0 columns) y))
        (both_kept plan split d p (region_number r scratch) (plane_cells f (r.k0 + a) r.rect y) row old mid new before
        (numbers_kept plan split d p (row_number r.rect.i0 ys) (region_number r scratch) row mid new (λ c h.
        let w = In-map_out (λ (m : ℕ). cell_at f (r.k0 + a) (r.rect.j0 +ℤ pos y) (r.rect.i0 +ℤ pos m)) c (range_with_len 0 columns) h in
        let small = In-range_out w.0 0 columns w.1 in
        ap (row_number r.rect.i0 ys) w.2
        ∙ ap (λ (n : ℕ). get_or ys n (pos 0)) (far r.rect.i0 w.0) ∙ values w.0 (omega (arith, small.1))
        ∙ sym (λ n. get_or scratch ((less r.k0 a n * rows + far r.rect.j0 y n) * columns + far r.rect.i0 w.0 n) (pos 0))
        ∙ ap (region_number r scratch) (sym w.2)) here))
      where
        far : (low : ℤ) (m : ℕ) → unsigned_abs ((low +ℤ pos m) -ℤ low) ≡ m
        far low m = omega (arith, ints)

        less : (a b : ℕ) → a + b - a ≡ b
        less a b = omega arith

    -- a plane more
    pub plane_step : (a : ℕ) (old mid new : List (List ℤ)) → SetsKept plan split d p (region_number r scratch) (planes_cells f r a) old mid →
        SetsKept plan split d p (region_number r scratch) (plane_cells f (r.k0 + a) r.rect rows) mid new → SetsKept plan split d p (region_number r scratch) (planes_cells f r (a + 1)) old new
    plane_step a old mid new before now =
        cells_kept plan split d p (region_number r scratch) (planes_cells f r a ++ plane_cells f (r.k0 + a) r.rect rows) (planes_cells f r (a + 1)) old new (sym (flat_more (λ x. plane_cells f (r.k0 + x) r.rect rows) a))
        (both_kept plan split d p (region_number r scratch) (planes_cells f r a) (plane_cells f (r.k0 + a) r.rect rows) old mid new before now)
