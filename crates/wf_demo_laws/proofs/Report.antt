-- The demo's memory lines are those of the lockstep run on columns.
use Rattle.std.proofs.Common.{◌≡◌, ◌⊎◌, inl, inr, ⊎_elim, ℕ, zero, suc, ◌+◌, ◌*◌, ◌-◌, ◌/◌, ◌<◌, ◌≤◌, Bool, true, false, List, [], ◌∷◌, ◌++◌, map, length, refl, sym, ap, ◌∙◌, subst, arith}
use Rattle.std.proofs.Math.Nat.{mul_comm, le-div_iff_mul-le, div-mul-le_self}
use Rattle.std.proofs.lemmas.List.{append-nil, map-append, map-id, length-map}
use Rattle.std.proofs.lemmas.Bool.Decides.{nat_tests}
use Rattle.std.proofs.lemmas.Int.{ints}
use Rattle.std.specs.Prelude.{ℤ, pos, ◌+ℤ◌, ◌≤ℤ◌, ◌<ℤ◌, min, max, nat_lt, nat_le, ◌&&◌, ◌||◌, fold, flat_map, sum_by, if◌then◌else◌}
use Rattle.std.specs.List.{range_with_len}
use Rattle.wf_model.specs.declared.demo.Demo.{Demo}
use Rattle.wf_model.specs.declared.layout.Layout.{Layout}
use Rattle.wf_model.specs.Value.{Answers}
use Rattle.wf_model.specs.Plans.{field_of}
use Rattle.wf_model.specs.Outcome.{RunData}
use Rattle.wf_model.specs.Patches.{Span, Box, Cell, split_of, span_list, in_span, in_box, grown, grown_box, memory_box, is_own, cells_in}
use Rattle.wf_model.specs.Shapes.{halo_holds}
use Rattle.wf_model.specs.PatchEffect.{Memory}
use Rattle.wf_model.specs.Lockstep.{lockstep, cells_of_patch, memory_line, memory_report}
use Rattle.wf_model.specs.DemoCase.{columns_layout}
use Rattle.wf_model.specs.Demo.{demo_value, first_column, end_column, column_sum, if_column, held_columns, demo_memory, demo_memories}
use Rattle.wf_laws.proofs.Members.{In, In-either, In-map_out, In-range_out}
use Rattle.wf_laws.proofs.Bools.{split_bool, and_right, and_both, or_left}
use Rattle.wf_laws.proofs.Spans.{span-in, span-low, span-high, block_low, block_end}
use Rattle.wf_laws.proofs.Listing.{length-rows}
use Rattle.wf_demo_laws.specs.DemoLaws.{demo_run}
use Rattle.wf_demo_laws.proofs.Parts.{flat_map-same, map-range_same}
use Rattle.wf_demo_laws.proofs.Sums.{sum-swap, sum-rows, map-map, flat_map-map}
use Rattle.wf_demo_laws.proofs.Accepted.{halo_part, halo_there, points}
use Rattle.wf_demo_laws.proofs.Columns.{own_is, memory_is, span_list-is, beside, columns_are}
use Rattle.wf_demo_laws.proofs.Held.{end_memory, own_value, beside_none, beside_some}

-- the columns of a list with their steps
abbrev columns_of : List (ℕ × ℕ) → List ℕ
columns_of hs = map (λ (h : ℕ × ℕ). h.1) hs

-- a column beside an end, without its steps
if_column_is : (n t i : ℕ) → columns_of (if_column n t i) ≡ beside n i
if_column_is n t i = at (nat_lt 0 i && nat_le i n)
  where
    at : (b : Bool) → columns_of (if b then (t, i) ∷ [] else []) ≡ (if b then i ∷ [] else [])
    at true = refl
    at false = refl

-- the column that a list of at most one has
in_if_column : (n t i : ℕ) (h : ℕ × ℕ) → In h (if_column n t i) → (h ≡ (t, i)) × ((nat_lt 0 i && nat_le i n) ≡ true)
in_if_column n t i h is = at (nat_lt 0 i && nat_le i n) refl is
  where
    at : (b : Bool) → (nat_lt 0 i && nat_le i n) ≡ b → In h (if b then (t, i) ∷ [] else []) → (h ≡ (t, i)) × ((nat_lt 0 i && nat_le i n) ≡ true)
    at true q is = (⊎_elim (λ e. e) (λ none. absurd none) is, q)
    at false q is = absurd is

-- a row's cell of a column
abbrev cell : ℕ → ℕ × ℕ → Cell
cell j h = record { field = 0; k = 1; j = pos j; i = pos h.1 }

none_first : (n : ℕ) → 0 + n ≡ n
none_first n = omega arith

one_row : (n : ℕ) → n * 1 ≡ n
one_row n = omega arith

one_back : (n : ℕ) → n + 1 - 1 ≡ n
one_back n = omega arith

as_many : (f e : ℕ) → e + 1 - (f + 1) ≡ e - f
as_many f e = omega arith

module _ (d : Demo) (m : Answers) (high : 1 ≤ d.ny) (some : 1 ≤ d.px) (room : d.px ≤ d.nx) where
  abbrev run : RunData
  run = demo_run d.nx d.ny d.steps m

  abbrev layout : Layout
  layout = columns_layout d.px

  -- the column before a patch's own, and its own last
  abbrev before : ℕ → ℕ
  before p = p * d.nx / d.px

  abbrev last : ℕ → ℕ
  last p = (p + 1) * d.nx / d.px

  -- own columns follow one another, within the domain
  rise : (p : ℕ) → p < d.px → before p ≤ last p
  rise p h = (le-div_iff_mul-le some).1 (omega (arith, div-mul-le_self (p * d.nx) d.px))

  within : (p : ℕ) → p < d.px → last p ≤ d.nx
  within p h = ⊎_elim (λ a. a.0) (λ b. omega (arith, b.0)) (block_end p d.px d.nx 0 some h)

  starts : (p : ℕ) → p < d.px → before p < d.nx
  starts p h = block_low p d.px d.nx (omega arith) (omega arith) h

  -- the columns that a patch holds
  held_are : (p : ℕ) → columns_of (held_columns d p) ≡ beside d.nx (before p) ++ range_with_len (before p + 1) (last p - before p) ++ beside d.nx (last p + 1)
  held_are p =
      let steps_before : List (ℕ × ℕ) = if_column d.nx (d.steps - 1) (first_column d.nx d.px p - 1) in
      let own : List (ℕ × ℕ) = map (λ i. (d.steps, i)) (range_with_len (first_column d.nx d.px p) (end_column d.nx d.px p - first_column d.nx d.px p)) in
      let after : List (ℕ × ℕ) = if_column d.nx (d.steps - 1) (end_column d.nx d.px p) in
      let one : columns_of steps_before ≡ beside d.nx (before p) = if_column_is d.nx (d.steps - 1) (first_column d.nx d.px p - 1) ∙ ap (beside d.nx) (one_back (before p)) in
      let two : columns_of own ≡ range_with_len (before p + 1) (last p - before p) =
      map-map (λ (h : ℕ × ℕ). h.1) (λ i. (d.steps, i)) (range_with_len (first_column d.nx d.px p) (end_column d.nx d.px p - first_column d.nx d.px p))
      ∙ map-id (range_with_len (first_column d.nx d.px p) (end_column d.nx d.px p - first_column d.nx d.px p))
      ∙ ap (range_with_len (before p + 1)) (as_many (before p) (last p)) in
      let three : columns_of after ≡ beside d.nx (last p + 1) = if_column_is d.nx (d.steps - 1) (end_column d.nx d.px p) in
      map-append (λ (h : ℕ × ℕ). h.1) (steps_before ++ own) after
      ∙ ap (λ (is : List ℕ). is ++ columns_of after) (map-append (λ (h : ℕ × ℕ). h.1) steps_before own)
      ∙ (λ t. one t ++ two t ++ three t)

  -- the columns of its memory are those that it holds
  columns_held : (p : ℕ) → p < d.px → span_list (memory_box run.plan (split_of layout) 1 p 0).x ≡ map (λ (h : ℕ × ℕ). pos h.1) (held_columns d p)
  columns_held p h =
      ap (λ (b : Box). span_list b.x) (memory_is d.nx d.ny d.steps d.px some room p h)
      ∙ span_list-is (max 1 (before p)) (min (d.nx + 1) (last p + 2))
      ∙ ap (λ (is : List ℕ). map pos is) (columns_are (before p) (last p) d.nx (rise p h) (within p h) (starts p h) ∙ sym (held_are p))
      ∙ map-map pos (λ (c : ℕ × ℕ). c.1) (held_columns d p)

  -- and its rows are all
  rows_held : (p : ℕ) → p < d.px → span_list (memory_box run.plan (split_of layout) 1 p 0).y ≡ map pos (range_with_len 1 d.ny)
  rows_held p h =
      ap (λ (b : Box). span_list b.y) (memory_is d.nx d.ny d.steps d.px some room p h)
      ∙ span_list-is 1 (d.ny + 1)
      ∙ ap (λ (n : ℕ). map pos (range_with_len 1 n)) (one_back d.ny)

  -- so its cells are those columns, row by row
  cells_are : (p : ℕ) → p < d.px → cells_of_patch run layout 1 p ≡ flat_map (λ j. map (cell j) (held_columns d p)) (range_with_len 1 d.ny)
  unfolding cells_in field_of
  cells_are p h =
      let columns = columns_held p h in
      let lines = rows_held p h in
      let at : ℤ → ℤ → Cell = λ j i. record { field = 0; k = 1; j = j; i = i } in
      append-nil _ ∙ append-nil _
      ∙ (λ t. flat_map (λ j. map (at j) (columns t)) (lines t))
      ∙ flat_map-map (λ j. map (at j) (map (λ (c : ℕ × ℕ). pos c.1) (held_columns d p))) pos (range_with_len 1 d.ny)
      ∙ flat_map-same (λ j. map (at (pos j)) (map (λ (c : ℕ × ℕ). pos c.1) (held_columns d p))) (λ j. map (cell j) (held_columns d p)) (range_with_len 1 d.ny)
      (λ j. map-map (at (pos j)) (λ (c : ℕ × ℕ). pos c.1) (held_columns d p))

  -- its numbers: own columns
  is_own_column : (p j i : ℕ) → p < d.px → 1 ≤ j → j ≤ d.ny → before p + 1 ≤ i → i ≤ last p → is_own run.plan (split_of layout) 1 p 0 (pos j) (pos i) ≡ true
  unfolding is_own
  is_own_column p j i h a b l u =
      ap (λ (box : Box). in_box box (pos j) (pos i)) (own_is d.nx d.ny d.steps d.px some room p h)
      ∙ and_both _ _ (span-in (record { low = pos 1; high = pos (d.ny + 1) }) (pos j) (omega (arith, ints)) (omega (arith, ints)))
      (span-in (record { low = pos (before p + 1); high = pos (last p + 1) }) (pos i) (omega (arith, ints)) (omega (arith, ints)))

  own_number : (p j i : ℕ) → p < d.px → 1 ≤ j → j ≤ d.ny → before p + 1 ≤ i → i ≤ last p → end_memory d.nx d.ny d.steps d.px m high some room p 0 1 (pos j) (pos i) ≡ pos (demo_value d.nx d.ny d.steps j i)
  own_number p j i h a b l u =
      own_value d.nx d.ny d.steps d.px m high some room p j i (omega arith) a b (omega arith) (omega (arith, within p h)) (is_own_column p j i h a b l u)

  -- and one beside each end
  module _ (p j i : ℕ) (h : p < d.px) (a : 1 ≤ j) (b : j ≤ d.ny) (l : 1 ≤ i) (u : i ≤ d.nx) (edge : (i ≡ before p) ⊎ (i ≡ last p + 1)) where
    -- they are not own
    not_own : is_own run.plan (split_of layout) 1 p 0 (pos j) (pos i) ≡ false
    unfolding is_own
    not_own =
        ⊎_elim
        (λ o.
        let lines : Span = record { low = pos 1; high = pos (d.ny + 1) } in
        let columns : Span = record { low = pos (before p + 1); high = pos (last p + 1) } in
        let box : (in_span lines (pos j) && in_span columns (pos i)) ≡ true = sym (ap (λ (box : Box). in_box box (pos j) (pos i)) (own_is d.nx d.ny d.steps d.px some room p h)) ∙ o in
        let is = and_right (in_span lines (pos j)) (in_span columns (pos i)) box in
        let low : pos (before p + 1) ≤ℤ pos i = span-low columns (pos i) is in
        let top : pos i <ℤ pos (last p + 1) = span-high columns (pos i) is in
        ⊎_elim (λ e. absurd (omega (arith, ints, e))) (λ e. absurd (omega (arith, ints, e))) edge)
        (λ o. o)
        (split_bool (is_own run.plan (split_of layout) 1 p 0 (pos j) (pos i)))

    -- they are at the ends
    from_before : before p ≤ i
    from_before = ⊎_elim (λ e. omega (arith, e)) (λ e. omega (arith, e, rise p h)) edge

    to_after : i ≤ last p + 1
    to_after = ⊎_elim (λ e. omega (arith, e, rise p h)) (λ e. omega (arith, e)) edge

    -- the halo fetches them into the memory
    halo_has : halo_holds run.plan (split_of layout) 1 p halo_part (pos j) (pos i) ≡ true
    halo_has =
        let lines : Span = record { low = pos 1; high = pos (d.ny + 1) } in
        let columns : Span = record { low = pos (before p + 1); high = pos (last p + 1) } in
        let own : Box = record { x = columns; y = lines } in
        let near =
        ap (λ (box : Box). in_box (grown_box 1 0 box) (pos j) (pos i) || in_box (grown_box 0 1 box) (pos j) (pos i)) (own_is d.nx d.ny d.steps d.px some room p h)
        ∙ or_left (in_box (grown_box 1 0 own) (pos j) (pos i)) (in_box (grown_box 0 1 own) (pos j) (pos i))
        (and_both _ _ (span-in (grown 0 lines) (pos j) (omega (arith, ints)) (omega (arith, ints))) (span-in (grown 1 columns) (pos i) (omega (arith, ints, from_before)) (omega (arith, ints, to_after)))) in
        halo_there d.nx d.ny d.steps (split_of layout) p (pos j) (pos i) (span-in (points d.ny) (pos j) (omega (arith, ints)) (omega (arith, ints))) (span-in (points d.nx) (pos i) (omega (arith, ints)) (omega (arith, ints))) near not_own

    memory_has : in_box (memory_box run.plan (split_of layout) 1 p 0) (pos j) (pos i) ≡ true
    memory_has =
        ap (λ (box : Box). in_box box (pos j) (pos i)) (memory_is d.nx d.ny d.steps d.px some room p h)
        ∙ and_both _ _ (span-in (record { low = pos 1; high = pos (d.ny + 1) }) (pos j) (omega (arith, ints)) (omega (arith, ints)))
        (span-in (record { low = pos (max 1 (before p)); high = pos (min (d.nx + 1) (last p + 2)) }) (pos i) (omega (arith, ints, from_before)) (omega (arith, ints, to_after)))

    -- one step behind
    beside_number : (n : ℕ) → d.steps ≡ n → end_memory d.nx d.ny d.steps d.px m high some room p 0 1 (pos j) (pos i) ≡ pos (demo_value d.nx d.ny (d.steps - 1) j i)
    beside_number zero q =
        beside_none d.nx d.ny d.steps d.px m high some room p j i (omega arith) a b l u memory_has q
        ∙ ap (λ (t : ℕ). pos (demo_value d.nx d.ny t j i)) (omega (arith, q))
    beside_number (suc n) q =
        beside_some d.nx d.ny d.steps d.px m high some room p j i (omega arith) a b l u memory_has n (omega (arith, q)) not_own halo_has
        ∙ ap (λ (t : ℕ). pos (demo_value d.nx d.ny t j i)) (omega (arith, q))

  -- at the end a row's cell of a column holds its value
  abbrev Holds : ℕ → ℕ → ℕ × ℕ → Type 0
  Holds p j c = end_memory d.nx d.ny d.steps d.px m high some room p 0 1 (pos j) (pos c.1) ≡ pos (demo_value d.nx d.ny c.0 j c.1)

  -- each held column has its steps behind it
  holds : (p j : ℕ) → p < d.px → 1 ≤ j → j ≤ d.ny → (c : ℕ × ℕ) → In c (held_columns d p) → Holds p j c
  holds p j h a b c is =
      let steps_before : List (ℕ × ℕ) = if_column d.nx (d.steps - 1) (first_column d.nx d.px p - 1) in
      let own : List (ℕ × ℕ) = map (λ i. (d.steps, i)) (range_with_len (first_column d.nx d.px p) (end_column d.nx d.px p - first_column d.nx d.px p)) in
      let after : List (ℕ × ℕ) = if_column d.nx (d.steps - 1) (end_column d.nx d.px p) in
      ⊎_elim
      (λ front. ⊎_elim (λ i. beside_column (first_column d.nx d.px p - 1) (inl (one_back (before p))) i) (λ i. own_column i) (In-either c steps_before own front))
      (λ i. beside_column (end_column d.nx d.px p) (inr refl) i)
      (In-either c (steps_before ++ own) after is)
    where
      beside_column : (i : ℕ) → (i ≡ before p) ⊎ (i ≡ last p + 1) → In c (if_column d.nx (d.steps - 1) i) → Holds p j c
      beside_column i edge is =
          let r = in_if_column d.nx (d.steps - 1) i c is in
          let test : (nat_lt 0 i && nat_le i d.nx) ≡ true = r.1 in
          let low : 1 ≤ i = grind (arith, nat_tests) in
          let top : i ≤ d.nx = grind (arith, nat_tests) in
          subst (Holds p j) (sym r.0) (beside_number p j i h a b low top edge d.steps refl)

      own_column : In c (map (λ i. (d.steps, i)) (range_with_len (first_column d.nx d.px p) (end_column d.nx d.px p - first_column d.nx d.px p))) → Holds p j c
      own_column is =
          let r = In-map_out (λ i. (d.steps, i)) c (range_with_len (first_column d.nx d.px p) (end_column d.nx d.px p - first_column d.nx d.px p)) is in
          let bounds = In-range_out r.0 (first_column d.nx d.px p) (end_column d.nx d.px p - first_column d.nx d.px p) r.1 in
          subst (Holds p j) (sym r.2) (own_number p j r.0 h a b bounds.0 (omega (arith, bounds.1, rise p h)))

  -- a patch's line
  line_is : (p : ℕ) → p < d.px → memory_line run layout (lockstep run layout) 1 p ≡ demo_memory d p
  unfolding lockstep
  line_is p h =
      let held : List (ℕ × ℕ) = held_columns d p in
      let memory : Memory = end_memory d.nx d.ny d.steps d.px m high some room p in
      let value : ℕ → ℕ × ℕ → ℕ = λ j c. demo_value d.nx d.ny c.0 j c.1 in
      let cells : length (cells_of_patch run layout 1 p) ≡ length held * d.ny =
      ap length (cells_are p h) ∙ length-rows (λ j. map (cell j) held) (length held) (λ j. length-map held (cell j)) 1 d.ny ∙ mul_comm d.ny (length held) in
      let total : fold (λ (z : ℤ) (c : Cell). z +ℤ memory c.field c.k c.j c.i) (pos 0) (cells_of_patch run layout 1 p) ≡ pos (sum_by (λ (c : ℕ × ℕ). column_sum d.nx d.ny c.0 c.1) held) =
      ap (fold (λ (z : ℤ) (c : Cell). z +ℤ memory c.field c.k c.j c.i) (pos 0)) (cells_are p h)
      ∙ sum-rows (λ (c : Cell). memory c.field c.k c.j c.i) cell value 0 held (range_with_len 1 d.ny)
      (λ j row c is. let bounds = In-range_out j 1 d.ny row in holds p j h bounds.0 (omega (arith, bounds.1)) c is)
      ∙ ap pos (none_first (sum_by (λ j. sum_by (value j) held) (range_with_len 1 d.ny)) ∙ sum-swap value (range_with_len 1 d.ny) held) in
      λ t. record { domain = 1; patch = p; cells = cells t; sum = total t }

  -- and all of them
  pub report_is : memory_report run layout ≡ demo_memories d
  unfolding memory_report
  report_is =
      append-nil (map (memory_line run layout (lockstep run layout) 1) (range_with_len 0 (d.px * 1)))
      ∙ ap (λ (n : ℕ). map (memory_line run layout (lockstep run layout) 1) (range_with_len 0 n)) (one_row d.px)
      ∙ map-range_same (memory_line run layout (lockstep run layout) 1) (demo_memory d) 0 d.px (λ p l u. line_is p (omega arith))
