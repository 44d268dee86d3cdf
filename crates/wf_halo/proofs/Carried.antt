-- The cells of a part by the definitions are those that are walked and pass the test.
use Rattle.std.proofs.Common.{◌≡◌, ⊎_elim, ℕ, ◌+◌, ◌-◌, ◌≤◌, Bool, true, false, List, map, flat_map, refl, sym, ap, subst, ◌∙◌, All, arith}
use Rattle.std.proofs.lemmas.Int.{ints, clamps}
use Rattle.std.specs.Prelude.{ℤ, pos, ◌+ℤ◌, ◌≤ℤ◌, ◌<ℤ◌, filter, not, ◌&&◌, ◌||◌, ◌==◌, if◌then◌else◌, unsigned_abs}
use Rattle.std.specs.Int.{int_max, int_min}
use Rattle.std.specs.List.{range_with_len}
use Rattle.wf_model.specs.declared.layout.Layout.{Layout}
use Rattle.wf_model.specs.declared.plan.Plan.{Plan}
use Rattle.wf_model.specs.declared.plan.HaloPart.{HaloPart}
use Rattle.wf_model.specs.declared.plan.PeriodPart.{PeriodPart}
use Rattle.wf_model.specs.Agreement.{IsPatch}
use Rattle.wf_model.specs.Plans.{domain_of, nx, ny, nz, up_to, wrapped, point_x, point_y}
use Rattle.wf_model.specs.Patches.{Span, Box, Cell, split_of, in_span, in_box, grown, grown_box, cut_unless, span_list, own_box, is_own, reached_box, is_in_domain, is_place, cells_in}
use Rattle.wf_model.specs.Shapes.{in_halo_box, halo_holds, period_holds, cell_owner, halo_cells, period_cells}
use Rattle.wf_model.specs.Core.{memory_point}
use Rattle.wf_model.specs.Kept.{IsKeptCell, IsSoundPatch}
use Rattle.wf_model.specs.PatchEffect.{Memory}
use Rattle.wf_model.specs.Sound.{IsDomain, IsLevel, IsSoundLayout}
use Rattle.wf_patch_laws.proofs.KeptCells.{own_kept}
use Rattle.wf_laws.proofs.Bools.{and_left, and_right, and_both, split_bool, differ, equal_of, equal_test}
use Rattle.wf_laws.proofs.Cells.{IsCellIn, In-cells, In-cells_out, reached_place}
use Rattle.wf_laws.proofs.Members.{In, In-filter, In-filter_out, All-In, map-same}
use Rattle.wf_laws.proofs.Places.{IsRoom, room_of, wrapped-back}
use Rattle.wf_laws.proofs.Senders.{owner_is, owner_there}
use Rattle.wf_laws.proofs.Spans.{span-in, span-low, span-high}
use Rattle.wf_rect.specs.declared.rects.Rect.{Rect}
use Rattle.wf_rect.specs.Tiles.{rows_of}
use Rattle.wf_boxes.specs.Boxes.{box_of}
use Rattle.wf_field.specs.Settings.{cell_at}
use Rattle.wf_field.specs.Regions.{columns_of, plane_cells, region_cells}
use Rattle.wf_field.specs.Rows.{row_cells}
use Rattle.wf_halo.proofs.Lists.{flat_map-map, map-map, flat_up, filter-same, filter-filter}
use Rattle.wf_halo.proofs.Narrow.{narrow}
use Rattle.wf_halo.specs.declared.parts.Part.{Part}
use Rattle.wf_halo.specs.Parts.{IsPart, is_inside, is_around, is_fetched, is_sent, row_of, column_of, part_cells, shared_box, walked_box, whole}
use Rattle.wf_halo.specs.Walks.{EachSent, IsWalked, sent, sent_number, sent_numbers}

-- two tests that follow from one another are one
both_ways : (a b : Bool) → (a ≡ true → b ≡ true) → (b ≡ true → a ≡ true) → a ≡ b
both_ways true true f g = refl
both_ways true false f g = absurd (differ (sym (f refl)))
both_ways false true f g = absurd (differ (sym (g refl)))
both_ways false false f g = refl

-- ---- the cells of a box

walked_row : (f k : ℕ) (j : ℤ) (r : Rect) → map (λ i. cell_at f k j i) (span_list (box_of r).x) ≡ row_cells f k j r.i0 (columns_of r)
walked_row f k j r = map-map (λ i. cell_at f k j i) (λ n. r.i0 +ℤ pos n) (range_with_len 0 (columns_of r))

walked_plane : (f k : ℕ) (r : Rect) → flat_map (λ j. map (λ i. cell_at f k j i) (span_list (box_of r).x)) (span_list (box_of r).y) ≡ plane_cells f k r (rows_of r)
walked_plane f k r =
    ap (λ (g : ℤ → List Cell). flat_map g (span_list (box_of r).y)) (λ n j. walked_row f k j r n)
    ∙ flat_map-map (λ j. row_cells f k j r.i0 (columns_of r)) (λ y. r.j0 +ℤ pos y) (range_with_len 0 (rows_of r))

box_walked : (f n : ℕ) (r : Rect) → flat_map (λ k. flat_map (λ j. map (λ i. cell_at f k j i) (span_list (box_of r).x)) (span_list (box_of r).y)) (range_with_len 1 n) ≡ flat_map (λ a. plane_cells f (1 + a) r (rows_of r)) (range_with_len 0 n)
box_walked f n r =
    ap (λ (g : ℕ → List Cell). flat_map g (range_with_len 1 n)) (λ m k. walked_plane f k r m)
    ∙ flat_up (λ k. plane_cells f k r (rows_of r)) 0 n

-- numbers of a span that two spans share
abbrev shared : Span → Span → Span
shared a b = record { low = int_max a.low b.low; high = int_min a.high b.high }

in_shared : (a b : Span) (c : ℤ) → in_span a c ≡ true → in_span b c ≡ true → in_span (shared a b) c ≡ true
in_shared a b c x y =
    let la : a.low ≤ℤ c = span-low a c x in
    let ua : c <ℤ a.high = span-high a c x in
    let lb : b.low ≤ℤ c = span-low b c y in
    let ub : c <ℤ b.high = span-high b c y in
    span-in (shared a b) c (omega (arith, ints, clamps)) (omega (arith, ints, clamps))

shared_left : (a b : Span) (c : ℤ) → in_span (shared a b) c ≡ true → in_span a c ≡ true
shared_left a b c h =
    let l : (shared a b).low ≤ℤ c = span-low (shared a b) c h in
    let u : c <ℤ (shared a b).high = span-high (shared a b) c h in
    span-in a c (omega (arith, ints, clamps)) (omega (arith, ints, clamps))

-- a point of the domain stands for itself
point_back : (p : Bool) (n : ℕ) (c : ℤ) → in_span (whole n) c ≡ true → pos (wrapped p n c) ≡ c
point_back p n c h =
    let l : pos 1 ≤ℤ c = span-low (whole n) c h in
    let u : c <ℤ pos (n + 1) = span-high (whole n) c h in
    let is : pos (unsigned_abs c) ≡ c = omega (arith, ints) in
    ap (λ (z : ℤ). pos (wrapped p n z)) (sym is) ∙ ap (λ (m : ℕ). pos m) (wrapped-back p n (unsigned_abs c) (omega (arith, ints)) (omega (arith, ints))) ∙ is

-- what is cut lies in the domain
cut_out : (p : Bool) (n : ℕ) (s : Span) (c : ℤ) → in_span (cut_unless p 1 n s) c ≡ true → (p || in_span (whole n) c) ≡ true
cut_out true n s c h = refl
cut_out false n s c h =
    let l : (cut_unless false 1 n s).low ≤ℤ c = span-low (cut_unless false 1 n s) c h in
    let u : c <ℤ (cut_unless false 1 n s).high = span-high (cut_unless false 1 n s) c h in
    span-in (whole n) c (omega (arith, ints, clamps)) (omega (arith, ints, clamps))

module _ (plan : Plan) (layout : Layout) (d to from : ℕ) (laid : IsSoundLayout plan layout) (dom : IsDomain plan d) (sender : IsPatch layout from) (x : HaloPart) (outside : Bool) (p : Part) (is : IsPart plan (split_of layout) d to from x outside p) where
  room : IsRoom plan (split_of layout) d
  room = room_of plan layout laid d dom

  abbrev box : Box
  box = reached_box plan (split_of layout) d to x.field x.radius x.radius

  abbrev mine : Box
  mine = own_box plan (split_of layout) d from x.field

  abbrev walked : Box
  walked = walked_box plan (split_of layout) d to from x outside

  -- the walk is within what the receiver reaches
  within_x : (c : ℤ) → in_span walked.x c ≡ true → in_span box.x c ≡ true
  within_x c h = by outside h
    where
      by : (o : Bool) → in_span (walked_box plan (split_of layout) d to from x o).x c ≡ true → in_span box.x c ≡ true
      by true h = h
      by false h = shared_left box.x mine.x c h

  within_y : (c : ℤ) → in_span walked.y c ≡ true → in_span box.y c ≡ true
  within_y c h = by outside h
    where
      by : (o : Bool) → in_span (walked_box plan (split_of layout) d to from x o).y c ≡ true → in_span box.y c ≡ true
      by true h = h
      by false h = shared_left box.y mine.y c h

  -- it can be walked
  pub walks : IsWalked p
  walks = record {
    near = is.near;
    ends = is.ends;
    radius = subst (λ (n : ℕ). n ≤ 6) (sym is.radius) is.small;
    some = is.some;
    rows = λ j h. (λ n. is.periodic_y n || in_span (whole (is.height n)) j) ∙ cut_out (domain_of plan d).periodic_y (ny plan d x.field) (grown x.radius (own_box plan (split_of layout) d to x.field).y) j (within_y j (sym (ap (λ (b : Box). in_span b.y j) is.box) ∙ h));
    columns = λ i h. (λ n. is.periodic_x n || in_span (whole (is.width n)) i) ∙ cut_out (domain_of plan d).periodic_x (nx plan d x.field) (grown x.radius (own_box plan (split_of layout) d to x.field).x) i (within_x i (sym (ap (λ (b : Box). in_span b.x i) is.box) ∙ h));
  }

  -- its cells are walked
  cells_are : cells_in plan x.field walked ≡ region_cells p.field p.cells
  unfolding cells_in
  cells_are =
      let levels : p.cells.k1 - p.cells.k0 ≡ nz plan x.field = omega (arith, is.last, is.first) in
      ap (λ (b : Box). flat_map (λ k. flat_map (λ j. map (λ i. cell_at x.field k j i) (span_list b.x)) (span_list b.y)) (up_to (nz plan x.field))) (sym is.box)
      ∙ box_walked x.field (nz plan x.field) p.cells.rect
      ∙ (λ m. flat_map (λ a. plane_cells (sym is.field m) (sym is.first m + a) p.cells.rect (rows_of p.cells.rect)) (range_with_len 0 (sym levels m)))

  -- the sender owns the point of a cell
  owned : (j i : ℤ) → in_box (box_of p.from) (pos (row_of p j)) (pos (column_of p i)) ≡ is_own plan (split_of layout) d from x.field (pos (point_y plan d x.field j)) (pos (point_x plan d x.field i))
  unfolding is_own
  owned j i = λ n. in_box (is.from_box n) (pos (wrapped (is.periodic_y n) (is.height n) j)) (pos (wrapped (is.periodic_x n) (is.width n) i))

  owner_test : (k : ℕ) (j i : ℤ) → in_box box j i ≡ true → (cell_owner plan (split_of layout) d (cell_at x.field k j i) == from) ≡ in_box (box_of p.from) (pos (row_of p j)) (pos (column_of p i))
  owner_test k j i h =
      let cell : Cell = cell_at x.field k j i in
      let place : is_place plan d x.field j i ≡ true = reached_place plan (split_of layout) d room to x.field x.radius j i h in
      both_ways (cell_owner plan (split_of layout) d cell == from) (in_box (box_of p.from) (pos (row_of p j)) (pos (column_of p i)))
      (λ t. owned j i ∙ subst (λ (q : ℕ). is_own plan (split_of layout) d q x.field (pos (point_y plan d x.field j)) (pos (point_x plan d x.field i)) ≡ true) (equal_of (cell_owner plan (split_of layout) d cell) from t) (owner_there plan (split_of layout) d room cell place).1)
      (λ t. equal_test (cell_owner plan (split_of layout) d cell) from (sym (owner_is plan (split_of layout) d room cell from sender place (sym (owned j i) ∙ t))))

  -- inside the domain
  inside_is : (j i : ℤ) → is_in_domain plan d x.field j i ≡ is_inside p j i
  unfolding is_in_domain
  inside_is j i = λ n. in_span (whole (sym is.height n)) j && in_span (whole (sym is.width n)) i

  -- around the own points
  around_is : (j i : ℤ) → in_halo_box plan (split_of layout) d to x j i ≡ is_around p j i
  unfolding in_halo_box
  around_is j i = λ n. if sym is.cross n
      then (in_box (grown_box 1 0 (sym is.to_box n)) j i || in_box (grown_box 0 1 (sym is.to_box n)) j i)
      else in_box (grown_box (sym is.radius n) (sym is.radius n) (sym is.to_box n)) j i

  own_is : (j i : ℤ) → is_own plan (split_of layout) d to x.field j i ≡ in_box (box_of p.to) j i
  unfolding is_own
  own_is j i = ap (λ (b : Box). in_box b j i) (sym is.to_box)

  -- the tests of both kinds of parts
  halo_is : outside ≡ false → (j i : ℤ) → halo_holds plan (split_of layout) d to x j i ≡ is_fetched p j i
  unfolding halo_holds
  halo_is o j i =
      (λ n. inside_is j i n && around_is j i n && not (own_is j i n))
      ∙ sym (ap (λ (b : Bool). if b then not (is_inside p j i) else is_inside p j i && is_around p j i && not (in_box (box_of p.to) j i)) (is.outer ∙ o))

  abbrev period : PeriodPart
  period = record { field = x.field; width = x.radius }

  period_is : outside ≡ true → (j i : ℤ) → in_box box j i ≡ true → period_holds plan (split_of layout) d to period j i ≡ is_fetched p j i
  unfolding period_holds
  period_is o j i h =
      (λ n. h n && not (inside_is j i n))
      ∙ sym (ap (λ (b : Bool). if b then not (is_inside p j i) else is_inside p j i && is_around p j i && not (in_box (box_of p.to) j i)) (is.outer ∙ o))

  -- what passes is walked
  walked_has : (j i : ℤ) → in_box box j i ≡ true → is_sent p j i ≡ true → in_box walked j i ≡ true
  walked_has j i inside sent = by outside is.outer
    where
      by : (o : Bool) → p.outside ≡ o → in_box (walked_box plan (split_of layout) d to from x o) j i ≡ true
      by true e = inside
      by false e =
          let fetched : (is_inside p j i && is_around p j i && not (in_box (box_of p.to) j i)) ≡ true =
          sym (ap (λ (b : Bool). if b then not (is_inside p j i) else is_inside p j i && is_around p j i && not (in_box (box_of p.to) j i)) e) ∙ and_left (is_fetched p j i) (in_box (box_of p.from) (pos (row_of p j)) (pos (column_of p i))) sent in
          let here : is_inside p j i ≡ true = and_left (is_inside p j i) (is_around p j i) (and_left (is_inside p j i && is_around p j i) (not (in_box (box_of p.to) j i)) fetched) in
          let y = point_back p.periodic_y p.height j (and_left (in_span (whole p.height) j) (in_span (whole p.width) i) here) in
          let z = point_back p.periodic_x p.width i (and_right (in_span (whole p.height) j) (in_span (whole p.width) i) here) in
          let own : in_box mine j i ≡ true = sym (λ n. in_box (is.from_box n) (y n) (z n)) ∙ and_right (is_fetched p j i) (in_box (box_of p.from) (pos (row_of p j)) (pos (column_of p i))) sent in
          and_both (in_span (shared_box box mine).y j) (in_span (shared_box box mine).x i)
          (in_shared box.y mine.y j (and_left (in_span box.y j) (in_span box.x i) inside) (and_left (in_span mine.y j) (in_span mine.x i) own))
          (in_shared box.x mine.x i (and_right (in_span box.y j) (in_span box.x i) inside) (and_right (in_span mine.y j) (in_span mine.x i) own))

  -- a test on the cells of the box
  by_test : (holds : ℤ → ℤ → Bool) → ((j i : ℤ) → in_box box j i ≡ true → holds j i ≡ is_fetched p j i) →
      filter (λ (c : Cell). cell_owner plan (split_of layout) d c == from) (filter (λ (c : Cell). holds c.j c.i) (cells_in plan x.field box)) ≡ sent p (region_cells p.field p.cells)
  by_test holds h =
      filter-filter (λ (c : Cell). cell_owner plan (split_of layout) d c == from) (λ (c : Cell). holds c.j c.i) (cells_in plan x.field box)
      ∙ filter-same (λ (c : Cell). holds c.j c.i && (cell_owner plan (split_of layout) d c == from)) (λ (c : Cell). is_sent p c.j c.i) (cells_in plan x.field box)
      (λ c at.
      let w : IsCellIn plan x.field box c = In-cells_out plan x.field box c at in
      let cell : cell_at x.field c.k c.j c.i ≡ c = ap (λ (f : ℕ). cell_at f c.k c.j c.i) (sym w.field) in
      (λ n. h c.j c.i w.box n && (ap (λ (z : Cell). cell_owner plan (split_of layout) d z == from) (sym cell) ∙ owner_test c.k c.j c.i w.box) n))
      ∙ narrow plan x.field (λ (c : Cell). is_sent p c.j c.i) walked box within_x within_y (λ k j i inside sent. walked_has j i inside sent)
      ∙ ap (sent p) cells_are

  pub part_sent : part_cells plan (split_of layout) d to from outside x ≡ sent p (region_cells p.field p.cells)
  part_sent =
      ⊎_elim
      (λ (o : outside ≡ true).
      ap (λ (b : Bool). part_cells plan (split_of layout) d to from b x) o ∙ by_test (period_holds plan (split_of layout) d to period) (λ j i h. period_is o j i h))
      (λ (o : outside ≡ false).
      ap (λ (b : Bool). part_cells plan (split_of layout) d to from b x) o ∙ by_test (halo_holds plan (split_of layout) d to x) (λ j i h. halo_is o j i))
      (split_bool outside)

  -- they are cells of the level
  part_field : (c : Cell) → In c (part_cells plan (split_of layout) d to from outside x) → c.field ≡ x.field
  part_field c at =
      ⊎_elim
      (λ (o : outside ≡ true).
      let a : In c (part_cells plan (split_of layout) d to from true x) = subst (λ (b : Bool). In c (part_cells plan (split_of layout) d to from b x)) o at in
      let w : IsCellIn plan x.field box c = In-cells_out plan x.field box c (In-filter_out (λ (z : Cell). period_holds plan (split_of layout) d to period z.j z.i) c (cells_in plan x.field box) (In-filter_out (λ (z : Cell). cell_owner plan (split_of layout) d z == from) c (period_cells plan (split_of layout) d to period) a).0).0 in
      w.field)
      (λ (o : outside ≡ false).
      let a : In c (part_cells plan (split_of layout) d to from false x) = subst (λ (b : Bool). In c (part_cells plan (split_of layout) d to from b x)) o at in
      let w : IsCellIn plan x.field box c = In-cells_out plan x.field box c (In-filter_out (λ (z : Cell). halo_holds plan (split_of layout) d to x z.j z.i) c (cells_in plan x.field box) (In-filter_out (λ (z : Cell). cell_owner plan (split_of layout) d z == from) c (halo_cells plan (split_of layout) d to x) a).0).0 in
      w.field)
      (split_bool outside)

  -- the numbers of their points
  pub part_numbers : (m : Memory) → sent_numbers p m (region_cells p.field p.cells) ≡ map (memory_point plan d m) (part_cells plan (split_of layout) d to from outside x)
  part_numbers m =
      ap (map (sent_number p m)) (sym part_sent)
      ∙ map-same (sent_number p m) (memory_point plan d m) (part_cells plan (split_of layout) d to from outside x)
      (λ c at.
      let e : c.field ≡ x.field = part_field c at in
      let f : x.field ≡ c.field = sym e in
      λ n. m c.field c.k (pos (wrapped (is.periodic_y n) ((is.height ∙ ap (ny plan d) f) n) c.j)) (pos (wrapped (is.periodic_x n) ((is.width ∙ ap (nx plan d) f) n) c.i)))

  -- which the sender's memory keeps
  pub keeps_points : IsSoundPatch plan layout d from → IsLevel plan x.field → EachSent p (λ k j i. IsKeptCell plan (split_of layout) d from (cell_at p.field k (pos (row_of p j)) (pos (column_of p i))))
  keeps_points sound level =
      λ k j i within row column sent.
      let own : is_own plan (split_of layout) d from x.field (pos (point_y plan d x.field j)) (pos (point_x plan d x.field i)) ≡ true = sym (owned j i) ∙ and_right (is_fetched p j i) (in_box (box_of p.from) (pos (row_of p j)) (pos (column_of p i))) sent in
      let low : 1 ≤ k = let w = within.0 in omega (arith, w, is.first) in
      let high : k ≤ nz plan x.field = let w = within.1 in omega (arith, w, is.last) in
      subst (λ (c : Cell). IsKeptCell plan (split_of layout) d from c) (λ n. cell_at (sym is.field n) k (pos (wrapped (sym is.periodic_y n) (sym is.height n) j)) (pos (wrapped (sym is.periodic_x n) (sym is.width n) i)))
      (own_kept plan layout d from (cell_at x.field k (pos (point_y plan d x.field j)) (pos (point_x plan d x.field i))) sound level (record { level = (low, high); own = own }))

  -- what holds of the part's cells holds of those that pass
  pub each_sent : (P : Cell → Type 0) → All P (part_cells plan (split_of layout) d to from outside x) → EachSent p (λ k j i. P (cell_at p.field k j i))
  each_sent P all =
      λ k j i within row column test.
      let low : 1 ≤ k = let w = within.0 in omega (arith, w, is.first) in
      let high : k ≤ nz plan x.field = let w = within.1 in omega (arith, w, is.last) in
      let inside : in_box walked j i ≡ true = ap (λ (b : Box). in_box b j i) (sym is.box) ∙ and_both (in_span (box_of p.cells.rect).y j) (in_span (box_of p.cells.rect).x i) row column in
      let there : In (cell_at x.field k j i) (region_cells p.field p.cells) = subst (λ (cs : List Cell). In (cell_at x.field k j i) cs) cells_are (In-cells plan x.field k walked j i low high inside) in
      let cell : cell_at x.field k j i ≡ cell_at p.field k j i = ap (λ (f : ℕ). cell_at f k j i) (sym is.field) in
      subst P cell (All-In P (cell_at x.field k j i) (part_cells plan (split_of layout) d to from outside x) all
      (subst (λ (cs : List Cell). In (cell_at x.field k j i) cs) (sym part_sent) (In-filter (λ (c : Cell). is_sent p c.j c.i) (cell_at x.field k j i) (region_cells p.field p.cells) there test)))
