-- Cells of a memory and the points that they stand for, run by run.
use Rattle.std.proofs.Common.{◌≡◌, ℕ, zero, suc, append_assoc, ◌+◌, ◌-◌, ◌*◌, ◌≤◌, ◌<◌, Bool, true, false, List, [], ◌∷◌, ◌++◌, length, get_or, refl, sym, ap, subst, ◌∙◌, All, arith}
use Rattle.std.proofs.lemmas.Int.{ints}
use Rattle.std.proofs.lemmas.List.FromFn.{map-range_with_len_more}
use Rattle.std.specs.Prelude.{ℤ, pos, ◌+ℤ◌, ◌-ℤ◌, ◌≤ℤ◌, ◌||◌, unsigned_abs}
use Rattle.std.specs.List.{range_with_len}
use Rattle.wf_model.specs.declared.layout.Layout.{Layout}
use Rattle.wf_model.specs.declared.plan.Plan.{Plan}
use Rattle.wf_model.specs.Plans.{domain_of, nx, ny, wrapped, point_x, point_y}
use Rattle.wf_model.specs.Grids.{grid_from}
use Rattle.wf_model.specs.Patches.{Split, Cell, split_of, in_span, is_place}
use Rattle.wf_laws.proofs.Members.{In-map, In-map_out, In-range, In-range_out, All-In}
use Rattle.wf_laws.proofs.Places.{IsRoom, room_of, whole, place_x, place_y, wrapped-back}
use Rattle.wf_laws.proofs.Reach.{memory_place}
use Rattle.wf_laws.proofs.Spans.{span-low}
use Rattle.wf_laws.proofs.Wrapping.{wrapped-shift}
use Rattle.wf_boxes.specs.declared.places.LevelBox.{LevelBox}
use Rattle.wf_boxes.specs.Places.{IsLevelBox}
use Rattle.wf_model.specs.Kept.{IsSoundPatch, IsKeptCell}
use Rattle.wf_field.specs.Settings.{cell_at, point_number}
use Rattle.wf_field.specs.Rows.{row_cells, row_number, SetsKept}
use Rattle.wf_field.proofs.Joining.{both_kept, cells_kept, numbers_kept}
use Rattle.wf_field.proofs.Regions.{All-from}

-- the points behind one stand behind its point, up to the end of the domain
pub run_on : (p : Bool) (n m : ℕ) (c : ℤ) → 0 < n → (p || in_span (whole n) c) ≡ true → wrapped p n c + m ≤ n → wrapped p n (c +ℤ pos m) ≡ wrapped p n c + m
run_on true n m c some h l =
    sym (wrapped-shift n c (pos m) some)
    ∙ wrapped-back true n (wrapped true n c + m) (omega arith) l
run_on false n m c some h l =
    let a : pos 1 ≤ℤ c = span-low (whole n) c h in
    omega (arith, ints)

-- some cells of a row, and those behind them
pub row_join : (f k : ℕ) (j i : ℤ) (m n : ℕ) → row_cells f k j i (m + n) ≡ row_cells f k j i m ++ row_cells f k j (i +ℤ pos m) n
row_join f k j i m zero = let e : m + zero ≡ m = omega arith in ap (row_cells f k j i) e ∙ sym (alone (row_cells f k j i m))
  where
    alone : {X : Type 0} (xs : List X) → xs ++ [] ≡ xs
    alone [] = refl
    alone (x ∷ xs) = ap (λ ys. x ∷ ys) (alone xs)
row_join f k j i m (suc n) =
    let e : m + suc n ≡ m + n + 1 = omega arith in
    let one : n + 1 ≡ suc n = omega arith in
    let far : i +ℤ pos (m + n) ≡ (i +ℤ pos m) +ℤ pos n = omega (arith, ints) in
    ap (row_cells f k j i) e
    ∙ map-range_with_len_more (λ (x : ℕ). cell_at f k j (i +ℤ pos x)) 0 (m + n) (m + n) (omega arith)
    ∙ ap (λ (xs : List Cell). xs ++ cell_at f k j (i +ℤ pos (m + n)) ∷ []) (row_join f k j i m n)
    ∙ append_assoc (row_cells f k j i m) (row_cells f k j (i +ℤ pos m) n) (cell_at f k j (i +ℤ pos (m + n)) ∷ [])
    ∙ ap (λ (z : ℤ). row_cells f k j i m ++ (row_cells f k j (i +ℤ pos m) n ++ cell_at f k j z ∷ [])) far
    ∙ ap (λ (xs : List Cell). row_cells f k j i m ++ xs) (sym (map-range_with_len_more (λ (x : ℕ). cell_at f k j ((i +ℤ pos m) +ℤ pos x)) 0 n n (omega arith)) ∙ ap (row_cells f k j (i +ℤ pos m)) one)

-- what holds of the cells of a row holds of one
pub row_one : (P : Cell → Type 0) (f k n m : ℕ) (j i : ℤ) → All P (row_cells f k j i n) → m < n → P (cell_at f k j (i +ℤ pos m))
row_one P f k n m j i all h =
    All-In P (cell_at f k j (i +ℤ pos m)) (row_cells f k j i n) all (In-map (λ (x : ℕ). cell_at f k j (i +ℤ pos x)) m (range_with_len 0 n) (In-range m 0 n (omega arith) (omega arith)))

-- and of a part
pub row_part : (P : Cell → Type 0) (f k n x m : ℕ) (j y i z : ℤ) → All P (row_cells f k j i n) → y ≡ j → z ≡ i +ℤ pos x → x + m ≤ n → All P (row_cells f k y z m)
row_part P f k n x m j y i z all ey ez h =
    subst (λ (w : ℤ). All P (row_cells f k w z m)) (sym ey) (subst (λ (w : ℤ). All P (row_cells f k j w m)) (sym ez)
    (All-from P (row_cells f k j (i +ℤ pos x) m) (λ c at.
    let w = In-map_out (λ (q : ℕ). cell_at f k j ((i +ℤ pos x) +ℤ pos q)) c (range_with_len 0 m) at in
    let small = In-range_out w.0 0 m w.1 in
    let far : i +ℤ pos (x + w.0) ≡ (i +ℤ pos x) +ℤ pos w.0 = shift i x w.0 in
    subst P (sym w.2) (subst (λ (q : ℤ). P (cell_at f k j q)) far (row_one P f k n (x + w.0) j i all (omega (arith, small.1)))))))
  where
    shift : (i : ℤ) (a b : ℕ) → i +ℤ pos (a + b) ≡ (i +ℤ pos a) +ℤ pos b
    shift i a b = omega (arith, ints)

-- a run more of a row
pub run_step : (plan : Plan) (split : Split) (d p : ℕ) (v : Cell → ℤ) (f k x n : ℕ) (j y i z : ℤ) (ys : List ℤ) (old mid new : List (List ℤ)) → y ≡ j → z ≡ i +ℤ pos x → length ys ≡ n →
    ((m : ℕ) → m < n → get_or ys m (pos 0) ≡ v (cell_at f k j ((i +ℤ pos x) +ℤ pos m))) →
    SetsKept plan split d p v (row_cells f k j i x) old mid → SetsKept plan split d p (row_number z ys) (row_cells f k y z (length ys)) mid new → SetsKept plan split d p v (row_cells f k j i (x + n)) old new
run_step plan split d p v f k x n j y i z ys old mid new ey ez en values before now =
    let at : ℤ = i +ℤ pos x in
    let row : List Cell = row_cells f k j (i +ℤ pos x) n in
    let here : SetsKept plan split d p (row_number (i +ℤ pos x) ys) row mid new =
    subst (λ (w : ℕ). SetsKept plan split d p (row_number (i +ℤ pos x) ys) (row_cells f k j (i +ℤ pos x) w) mid new) en
    (subst (λ (w : ℤ). SetsKept plan split d p (row_number (i +ℤ pos x) ys) (row_cells f k w (i +ℤ pos x) (length ys)) mid new) ey
    (subst (λ (w : ℤ). SetsKept plan split d p (row_number w ys) (row_cells f k y w (length ys)) mid new) ez now)) in
    cells_kept plan split d p v (row_cells f k j i x ++ row) (row_cells f k j i (x + n)) old new (sym (row_join f k j i x n))
    (both_kept plan split d p v (row_cells f k j i x) row old mid new before
    (numbers_kept plan split d p (row_number (i +ℤ pos x) ys) v row mid new (λ c h.
    let w = In-map_out (λ (q : ℕ). cell_at f k j ((i +ℤ pos x) +ℤ pos q)) c (range_with_len 0 n) h in
    let small = In-range_out w.0 0 n w.1 in
    ap (row_number (i +ℤ pos x) ys) w.2 ∙ ap (λ (q : ℕ). get_or ys q (pos 0)) (far (i +ℤ pos x) w.0) ∙ values w.0 (omega (arith, small.1)) ∙ ap v (sym w.2)) here))
  where
    far : (low : ℤ) (m : ℕ) → unsigned_abs ((low +ℤ pos m) -ℤ low) ≡ m
    far low m = omega (arith, ints)

module _ (plan : Plan) (layout : Layout) (d p : ℕ) (sound : IsSoundPatch plan layout d p) where
  room : IsRoom plan (split_of layout) d
  room = room_of plan layout sound.laid d sound.domain

  -- a kept cell is a place
  place : (c : Cell) → IsKeptCell plan (split_of layout) d p c → is_place plan d c.field c.j c.i ≡ true
  place c h = memory_place plan (split_of layout) d room p c.field c.j c.i (h.within).within

  module _ (f : ℕ) (s : LevelBox) (is : IsLevelBox plan (split_of layout) d p f s) (values : List ℤ) where
    pub inside_y : (k : ℕ) (j i y : ℤ) → y ≡ j → IsKeptCell plan (split_of layout) d p (cell_at f k j i) → (s.periodic_y || in_span (whole s.height) y) ≡ true
    inside_y k j i y ey h =
        (λ n. is.periodic_y n || in_span (whole (is.height n)) (ey n)) ∙ place_y plan (split_of layout) d room f j i (place (cell_at f k j i) h)

    pub inside_x : (k : ℕ) (j i x : ℤ) → x ≡ i → IsKeptCell plan (split_of layout) d p (cell_at f k j i) → (s.periodic_x || in_span (whole s.width) x) ≡ true
    inside_x k j i x ex h =
        (λ n. is.periodic_x n || in_span (whole (is.width n)) (ex n)) ∙ place_x plan (split_of layout) d room f j i (place (cell_at f k j i) h)

    pub level_in : (k : ℕ) (j i : ℤ) → IsKeptCell plan (split_of layout) d p (cell_at f k j i) → (1 ≤ k) × (k ≤ s.levels)
    level_in k j i h = ((h.within).level.0, subst (λ (n : ℕ). k ≤ n) (sym is.levels) (h.within).level.1)

    -- the number of a cell of a run
    pub run_number : (k start first m : ℕ) (j i : ℤ) → IsKeptCell plan (split_of layout) d p (cell_at f k j i) → start ≡ ((k - 1) * s.height + (wrapped s.periodic_y s.height j - 1)) * s.width →
        first + 1 ≡ wrapped s.periodic_x s.width i → first + m < s.width →
        get_or values (start + first + m) (pos 0) ≡ point_number plan d f values (cell_at f k j (i +ℤ pos m))
    unfolding grid_from
    run_number k start first m j i kept starts firsts within =
        let some : 0 < nx plan d f = subst (λ (n : ℕ). 0 < n) is.width (one_up (is.some).0) in
        let x : first + 1 ≡ point_x plan d f i = firsts ∙ (λ n. wrapped (is.periodic_x n) (is.width n) i) in
        let y : start ≡ ((k - 1) * ny plan d f + (point_y plan d f j - 1)) * nx plan d f = starts ∙ (λ n. ((k - 1) * is.height n + (wrapped (is.periodic_y n) (is.height n) j - 1)) * is.width n) in
        let low : first + m < nx plan d f = subst (λ (n : ℕ). first + m < n) is.width within in
        let on : point_x plan d f (i +ℤ pos m) ≡ point_x plan d f i + m =
        run_on (domain_of plan d).periodic_x (nx plan d f) m i some (place_x plan (split_of layout) d room f j i (place (cell_at f k j i) kept)) (by_sum first m (nx plan d f) (point_x plan d f i) x low) in
        ap (λ (n : ℕ). get_or values n (pos 0))
        (places start first m (((k - 1) * ny plan d f + (point_y plan d f j - 1)) * nx plan d f) (point_x plan d f i) (point_x plan d f (i +ℤ pos m)) y x on)
      where
        one_up : {n : ℕ} → 1 ≤ n → 0 < n
        one_up h = omega (arith, h)

        by_sum : (a m n w : ℕ) → a + 1 ≡ w → a + m < n → w + m ≤ n
        by_sum a m n w e l = omega arith

        places : (start first m q w z : ℕ) → start ≡ q → first + 1 ≡ w → z ≡ w + m → start + first + m ≡ q + (z - 1)
        places start first m q w z e g h = omega arith
