-- The cells of a region, told by a test.
use Rattle.std.proofs.Common.{◌≡◌, ⊎_elim, ℕ, ◌+◌, ◌-◌, ◌≤◌, ◌<◌, Bool, true, List, length, sym, ap, subst, ◌∙◌, All, arith}
use Rattle.std.specs.Prelude.{ℤ, pos, ◌+ℤ◌, ◌-ℤ◌, ◌==◌, ◌&&◌, nat_le, nat_lt, unsigned_abs, if◌then◌else◌}
use Rattle.std.specs.List.{range_with_len, list_any}
use Rattle.wf_model.specs.declared.plan.Plan.{Plan}
use Rattle.wf_model.specs.Patches.{Split, Cell, in_span, in_box, kept_at}
use Rattle.wf_model.specs.Exchange.{same_cell}
use Rattle.wf_model.specs.Kept.{SetsExactly}
use Rattle.wf_laws.proofs.Bools.{and_left, and_right, and_both, equal_of, equal_test, less_of, less_test, most_of, most_test, split_bool, differ}
use Rattle.wf_laws.proofs.Cells.{span-at, span-holds}
use Rattle.wf_laws.proofs.Members.{In, In-map_out, In-range_out, In-flat_map_out, list_any-In, list_any-none}
use Rattle.wf_laws.proofs.Fetch.{same_cell-equal, same_cell-same}
use Rattle.wf_rect.specs.declared.rects.Region.{Region}
use Rattle.wf_rect.specs.Tiles.{rows_of}
use Rattle.wf_boxes.specs.Boxes.{box_of}
use Rattle.wf_field.specs.Settings.{cell_at}
use Rattle.wf_field.specs.Rows.{row_cells, SetsKept}
use Rattle.wf_field.specs.Regions.{region_has, columns_of, region_size, plane_cells, region_cells, region_number, region_setting}
use Rattle.wf_field.proofs.Regions.{All-from, length_region, row_in}

module _ (f : ℕ) (r : Region) where
  -- a cell so far from the region's corner
  record Inside (c : Cell) : Type 0 where
    a : ℕ
    y : ℕ
    x : ℕ
    plane : a < r.k1 - r.k0
    row : y < rows_of r.rect
    column : x < columns_of r.rect
    is : c ≡ cell_at f (r.k0 + a) (r.rect.j0 +ℤ pos y) (r.rect.i0 +ℤ pos x)

  -- each cell of the list is one
  inside : (c : Cell) → In c (region_cells f r) → Inside c
  inside c h =
      let p = In-flat_map_out (λ (a : ℕ). plane_cells f (r.k0 + a) r.rect (rows_of r.rect)) c (range_with_len 0 (r.k1 - r.k0)) h in
      let q = In-flat_map_out (λ (y : ℕ). row_cells f (r.k0 + p.0) (r.rect.j0 +ℤ pos y) r.rect.i0 (columns_of r.rect)) c (range_with_len 0 (rows_of r.rect)) p.2 in
      let s = In-map_out (λ (x : ℕ). cell_at f (r.k0 + p.0) (r.rect.j0 +ℤ pos q.0) (r.rect.i0 +ℤ pos x)) c (range_with_len 0 (columns_of r.rect)) q.2 in
      let l = In-range_out p.0 0 (r.k1 - r.k0) p.1 in
      let m = In-range_out q.0 0 (rows_of r.rect) q.1 in
      let n = In-range_out s.0 0 (columns_of r.rect) s.1 in
      record { a = p.0; y = q.0; x = s.0; plane = omega (arith, l.1); row = omega (arith, m.1); column = omega (arith, n.1); is = s.2 }

  -- the region has its point
  has : (c : Cell) (w : Inside c) → region_has r c.k c.j c.i ≡ true
  has c w =
      subst (λ (z : Cell). region_has r z.k z.j z.i ≡ true) (sym w.is)
      (and_both (nat_le r.k0 (r.k0 + w.a) && nat_lt (r.k0 + w.a) r.k1) (in_box (box_of r.rect) (r.rect.j0 +ℤ pos w.y) (r.rect.i0 +ℤ pos w.x))
      (and_both (nat_le r.k0 (r.k0 + w.a)) (nat_lt (r.k0 + w.a) r.k1) (most_test r.k0 (r.k0 + w.a) (omega arith)) (less_test (r.k0 + w.a) r.k1 (let l = w.plane in omega (arith, l))))
      (and_both (in_span (box_of r.rect).y (r.rect.j0 +ℤ pos w.y)) (in_span (box_of r.rect).x (r.rect.i0 +ℤ pos w.x)) (span-holds (box_of r.rect).y w.y w.row) (span-holds (box_of r.rect).x w.x w.column)))

  -- and each point of the region is a cell of the list
  listed : (k : ℕ) (j i : ℤ) → region_has r k j i ≡ true → In (cell_at f k j i) (region_cells f r)
  listed k j i h =
      let levels = and_left (nat_le r.k0 k && nat_lt k r.k1) (in_box (box_of r.rect) j i) h in
      let box = and_right (nat_le r.k0 k && nat_lt k r.k1) (in_box (box_of r.rect) j i) h in
      let low : r.k0 ≤ k = most_of r.k0 k (and_left (nat_le r.k0 k) (nat_lt k r.k1) levels) in
      let high : k < r.k1 = less_of k r.k1 (and_right (nat_le r.k0 k) (nat_lt k r.k1) levels) in
      let y = span-at (box_of r.rect).y j (and_left (in_span (box_of r.rect).y j) (in_span (box_of r.rect).x i) box) in
      let x = span-at (box_of r.rect).x i (and_right (in_span (box_of r.rect).y j) (in_span (box_of r.rect).x i) box) in
      let at : r.k0 + (k - r.k0) ≡ k = omega arith in
      let cell : cell_at f (r.k0 + (k - r.k0)) (r.rect.j0 +ℤ pos (unsigned_abs (j -ℤ r.rect.j0))) (r.rect.i0 +ℤ pos (unsigned_abs (i -ℤ r.rect.i0))) ≡ cell_at f k j i = λ n. cell_at f (at n) (y.1 n) (x.1 n) in
      subst (λ (c : Cell). In c (region_cells f r)) cell
      (row_in f r (k - r.k0) (unsigned_abs (j -ℤ r.rect.j0)) (unsigned_abs (i -ℤ r.rect.i0)) (omega arith) y.0 x.0)

  -- so the list has just the cells that pass the test
  among : (c : Cell) → list_any (same_cell c) (region_cells f r) ≡ ((c.field == f) && region_has r c.k c.j c.i)
  among c =
      ⊎_elim
      (λ t.
      let e : c.field ≡ f = equal_of c.field f (and_left (c.field == f) (region_has r c.k c.j c.i) t) in
      let h = and_right (c.field == f) (region_has r c.k c.j c.i) t in
      list_any-In (same_cell c) c (region_cells f r) (subst (λ (g : ℕ). In (cell_at g c.k c.j c.i) (region_cells f r)) (sym e) (listed c.k c.j c.i h)) (same_cell-same c) ∙ sym t)
      (λ t.
      list_any-none (same_cell c) (region_cells f r)
      (λ x at. ⊎_elim
      (λ u. absurd (differ (sym (subst (λ (z : Cell). ((z.field == f) && region_has r z.k z.j z.i) ≡ true) (sym (same_cell-equal c x u)) (passes x (inside x at))) ∙ t)))
      (λ u. u)
      (split_bool (same_cell c x)))
      ∙ sym t)
      (split_bool ((c.field == f) && region_has r c.k c.j c.i))
    where
      passes : (x : Cell) → Inside x → ((x.field == f) && region_has r x.k x.j x.i) ≡ true
      passes x w = and_both (x.field == f) (region_has r x.k x.j x.i) (equal_test x.field f (ap (λ (z : Cell). z.field) w.is)) (has x w)

  -- what holds of the cells that pass holds of the list
  pub all_cells : (P : Cell → Type 0) → ((k : ℕ) (j i : ℤ) → region_has r k j i ≡ true → P (cell_at f k j i)) → All P (region_cells f r)
  all_cells P h =
      All-from P (region_cells f r) (λ c at.
      let w = inside c at in
      let e : c.field ≡ f = ap (λ (z : Cell). z.field) w.is in
      subst (λ (g : ℕ). P (cell_at g c.k c.j c.i)) (sym e) (h c.k c.j c.i (has c w)))

  -- a list that is long enough for the region
  pub long_enough : (n : ℕ) → region_size r ≤ n → length (region_cells f r) ≤ n
  long_enough n h = subst (λ (m : ℕ). m ≤ n) (sym (length_region f r)) h

  -- the region is set
  pub region_set : (plan : Plan) (split : Split) (d p : ℕ) (list : List ℤ) (old new : List (List ℤ)) → SetsKept plan split d p (region_number r list) (region_cells f r) old new → SetsExactly plan split d p (region_setting f r list) old new
  region_set plan split d p list old new h = record {
    levels = h.levels;
    sizes = λ g l. h.sizes g;
    numbers = λ c k. h.numbers c k ∙ ap (λ (b : Bool). if b then region_number r list c else kept_at plan split d p old c.field c.k c.j c.i) (among c);
  }
