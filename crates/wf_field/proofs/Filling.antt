-- All cells of a level of a memory.
use Rattle.std.proofs.Common.{◌≡◌, ⊎_elim, ℕ, ◌+◌, ◌-◌, ◌≤◌, ◌<◌, Bool, true, List, ◌++◌, sym, ap, subst, ◌∙◌, All, arith}
use Rattle.std.specs.Prelude.{ℤ, pos, ◌+ℤ◌, ◌-ℤ◌, ◌==◌, unsigned_abs, if◌then◌else◌}
use Rattle.std.specs.List.{range_with_len, list_any}
use Rattle.wf_model.specs.declared.plan.Plan.{Plan}
use Rattle.wf_model.specs.Patches.{Split, Box, Cell, in_span, memory_box, kept_at}
use Rattle.wf_model.specs.Exchange.{same_cell}
use Rattle.wf_model.specs.Sound.{IsLevel}
use Rattle.wf_laws.proofs.Bools.{and_left, and_right, and_both, equal_test, split_bool, unlike, equal_or_not}
use Rattle.wf_laws.proofs.Members.{In, In-map, In-map_out, In-range, In-range_out, In-flat_map, In-flat_map_out, list_any-In, list_any-none}
use Rattle.wf_laws.proofs.Fetch.{same_cell-equal, same_cell-same}
use Rattle.wf_boxes.specs.declared.places.LevelBox.{LevelBox}
use Rattle.wf_boxes.specs.Places.{IsLevelBox}
use Rattle.wf_model.specs.Kept.{IsKeptCell}
use Rattle.wf_model.specs.Kept.{SetsExactly}
use Rattle.wf_laws.proofs.Cells.{span-at, span-holds}
use Rattle.wf_field.specs.Settings.{cell_at, point_number, level_setting}
use Rattle.wf_field.specs.Rows.{row_cells, box_rows, box_planes, SetsKept}
use Rattle.wf_field.proofs.Joining.{flat_more, both_kept, cells_kept}
use Rattle.wf_field.proofs.Regions.{All-from}

module _ (plan : Plan) (split : Split) (d p f : ℕ) (s : LevelBox) (level : IsLevel plan f) (is : IsLevelBox plan split d p f s) where
  abbrev box : Box
  box = memory_box plan split d p f

  -- a cell so far from the ends of the box is kept
  far_kept : (k y x : ℕ) → 1 ≤ k → k ≤ s.levels → y < s.rows → x < s.columns → IsKeptCell plan split d p (cell_at f k (s.south +ℤ pos y) (s.west +ℤ pos x))
  far_kept k y x l h a b = record {
    field = level;
    within = record {
      level = (l, subst (λ (n : ℕ). k ≤ n) is.levels h);
      within = and_both (in_span box.y (s.south +ℤ pos y)) (in_span box.x (s.west +ℤ pos x))
          (subst (λ (z : ℤ). in_span box.y (z +ℤ pos y) ≡ true) (sym is.south) (span-holds box.y y (subst (λ (n : ℕ). y < n) is.rows a)))
          (subst (λ (z : ℤ). in_span box.x (z +ℤ pos x) ≡ true) (sym is.west) (span-holds box.x x (subst (λ (n : ℕ). x < n) is.columns b)));
    };
  }

  -- so are those of a row
  pub rows_kept : (k y : ℕ) (j : ℤ) → 1 ≤ k → k ≤ s.levels → y < s.rows → j ≡ s.south +ℤ pos y → All (IsKeptCell plan split d p) (row_cells f k j s.west s.columns)
  rows_kept k y j l h a e =
      subst (λ (z : ℤ). All (IsKeptCell plan split d p) (row_cells f k z s.west s.columns)) (sym e)
      (All-from (IsKeptCell plan split d p) (row_cells f k (s.south +ℤ pos y) s.west s.columns) (λ c at.
      let w = In-map_out (λ (m : ℕ). cell_at f k (s.south +ℤ pos y) (s.west +ℤ pos m)) c (range_with_len 0 s.columns) at in
      let small = In-range_out w.0 0 s.columns w.1 in
      subst (IsKeptCell plan split d p) (sym w.2) (far_kept k y w.0 l h a (omega (arith, small.1)))))

  -- a row more, and a plane more
  pub rows_step : (v : Cell → ℤ) (k y : ℕ) (j : ℤ) (old mid new : List (List ℤ)) → j ≡ s.south +ℤ pos y → SetsKept plan split d p v (box_rows f s k y) old mid → SetsKept plan split d p v (row_cells f k j s.west s.columns) mid new →
      SetsKept plan split d p v (box_rows f s k (y + 1)) old new
  rows_step v k y j old mid new e before now =
      cells_kept plan split d p v (box_rows f s k y ++ row_cells f k (s.south +ℤ pos y) s.west s.columns) (box_rows f s k (y + 1)) old new (sym (flat_more (λ z. row_cells f k (s.south +ℤ pos z) s.west s.columns) y))
      (both_kept plan split d p v (box_rows f s k y) (row_cells f k (s.south +ℤ pos y) s.west s.columns) old mid new before
      (subst (λ (z : ℤ). SetsKept plan split d p v (row_cells f k z s.west s.columns) mid new) e now))

  pub planes_step : (v : Cell → ℤ) (a : ℕ) (old mid new : List (List ℤ)) → SetsKept plan split d p v (box_planes f s a) old mid → SetsKept plan split d p v (box_rows f s (a + 1) s.rows) mid new →
      SetsKept plan split d p v (box_planes f s (a + 1)) old new
  planes_step v a old mid new before now =
      cells_kept plan split d p v (box_planes f s a ++ box_rows f s (a + 1) s.rows) (box_planes f s (a + 1)) old new (sym (flat_more (λ z. box_rows f s (z + 1) s.rows) a))
      (both_kept plan split d p v (box_planes f s a) (box_rows f s (a + 1) s.rows) old mid new before now)

  -- each kept cell of the level is among them
  all_in : (k : ℕ) (j i : ℤ) → IsKeptCell plan split d p (cell_at f k j i) → In (cell_at f k j i) (box_planes f s s.levels)
  all_in k j i h =
      let yes = and_left (in_span box.y j) (in_span box.x i) (h.within).within in
      let xes = and_right (in_span box.y j) (in_span box.x i) (h.within).within in
      let y : ℕ = unsigned_abs (j -ℤ box.y.low) in
      let x : ℕ = unsigned_abs (i -ℤ box.x.low) in
      let by : y < s.rows = subst (λ (n : ℕ). y < n) (sym is.rows) (span-at box.y j yes).0 in
      let bx : x < s.columns = subst (λ (n : ℕ). x < n) (sym is.columns) (span-at box.x i xes).0 in
      let ey : s.south +ℤ pos y ≡ j = ap (λ (z : ℤ). z +ℤ pos y) is.south ∙ (span-at box.y j yes).1 in
      let ex : s.west +ℤ pos x ≡ i = ap (λ (z : ℤ). z +ℤ pos x) is.west ∙ (span-at box.x i xes).1 in
      let low = (h.within).level.0 in
      let high : k ≤ s.levels = subst (λ (n : ℕ). k ≤ n) (sym is.levels) (h.within).level.1 in
      let ek : k - 1 + 1 ≡ k = omega arith in
      let cell : cell_at f (k - 1 + 1) (s.south +ℤ pos y) (s.west +ℤ pos x) ≡ cell_at f k j i = λ n. cell_at f (ek n) (ey n) (ex n) in
      subst (λ (c : Cell). In c (box_planes f s s.levels)) cell
      (In-flat_map (λ a. box_rows f s (a + 1) s.rows) (cell_at f (k - 1 + 1) (s.south +ℤ pos y) (s.west +ℤ pos x)) (k - 1) (range_with_len 0 s.levels) (In-range (k - 1) 0 s.levels (omega arith) (omega (arith, low, high)))
      (In-flat_map (λ z. row_cells f (k - 1 + 1) (s.south +ℤ pos z) s.west s.columns) (cell_at f (k - 1 + 1) (s.south +ℤ pos y) (s.west +ℤ pos x)) y (range_with_len 0 s.rows) (In-range y 0 s.rows (omega arith) (omega (arith, by)))
      (In-map (λ z. cell_at f (k - 1 + 1) (s.south +ℤ pos y) (s.west +ℤ pos z)) x (range_with_len 0 s.columns) (In-range x 0 s.columns (omega arith) (omega (arith, bx))))))

  -- and no cell of another level
  only_level : (c : Cell) → In c (box_planes f s s.levels) → c.field ≡ f
  only_level c h =
      let a = In-flat_map_out (λ a. box_rows f s (a + 1) s.rows) c (range_with_len 0 s.levels) h in
      let b = In-flat_map_out (λ z. row_cells f (a.0 + 1) (s.south +ℤ pos z) s.west s.columns) c (range_with_len 0 s.rows) a.2 in
      let e = In-map_out (λ z. cell_at f (a.0 + 1) (s.south +ℤ pos b.0) (s.west +ℤ pos z)) c (range_with_len 0 s.columns) b.2 in
      ap (λ (x : Cell). x.field) e.2

  -- so a kept cell is among them where it is of the level
  among : (c : Cell) → IsKeptCell plan split d p c → list_any (same_cell c) (box_planes f s s.levels) ≡ (c.field == f)
  among c h = ⊎_elim
      (λ e. list_any-In (same_cell c) c (box_planes f s s.levels)
      (subst (λ (g : ℕ). In (cell_at g c.k c.j c.i) (box_planes f s s.levels)) (sym e) (all_in c.k c.j c.i (subst (λ (g : ℕ). IsKeptCell plan split d p (cell_at g c.k c.j c.i)) e h)))
      (same_cell-same c) ∙ sym (equal_test c.field f e))
      (λ e. list_any-none (same_cell c) (box_planes f s s.levels) (λ x at. ⊎_elim (λ t. absurd (e (ap (λ (z : Cell). z.field) (same_cell-equal c x t) ∙ only_level x at))) (λ t. t) (split_bool (same_cell c x)))
      ∙ sym (unlike c.field f (λ w. e (sym w))))
      (equal_or_not c.field f)

  -- the level is filled
  pub filled : (list : List ℤ) (old new : List (List ℤ)) → SetsKept plan split d p (point_number plan d f list) (box_planes f s s.levels) old new → SetsExactly plan split d p (level_setting plan d f list) old new
  filled list old new h = record {
    levels = h.levels;
    sizes = λ g l. h.sizes g;
    numbers = λ c k. h.numbers c k ∙ ap (λ (b : Bool). if b then point_number plan d f list c else kept_at plan split d p old c.field c.k c.j c.i) (among c k);
  }

-- of the same patch
pub box_patch : {plan : Plan} {split : Split} {d e p q f : ℕ} {s : LevelBox} → d ≡ e → p ≡ q → IsLevelBox plan split d p f s → IsLevelBox plan split e q f s
box_patch {plan} {split} {d} {e} {p} {q} {f} {s} domain patch h = subst (λ (n : ℕ). IsLevelBox plan split n q f s) domain (subst (λ (n : ℕ). IsLevelBox plan split d n f s) patch h)

pub points_patch : {plan : Plan} {split : Split} {d e p q : ℕ} {cs : List Cell} {a b : List (List ℤ)} (f : ℕ) (list : List ℤ) → d ≡ e → p ≡ q → SetsKept plan split d p (point_number plan d f list) cs a b →
    SetsKept plan split e q (point_number plan e f list) cs a b
points_patch {plan} {split} {d} {e} {p} {q} {cs} {a} {b} f list domain patch h =
    subst (λ (n : ℕ). SetsKept plan split n q (point_number plan n f list) cs a b) domain (subst (λ (n : ℕ). SetsKept plan split d n (point_number plan d f list) cs a b) patch h)
