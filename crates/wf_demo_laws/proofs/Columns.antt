-- The boxes of patches by columns: their own columns, and one beside each end.
use Rattle.std.proofs.Common.{◌≡◌, ⊎_elim, ℕ, zero, suc, ◌+◌, ◌*◌, ◌-◌, ◌/◌, ◌<◌, ◌≤◌, Bool, true, false, List, [], ◌∷◌, ◌++◌, map, refl, sym, ap, ◌∙◌, arith}
use Rattle.std.proofs.Math.Nat.{mod-eq_of_lt, div-eq_of_lt}
use Rattle.std.proofs.lemmas.List.{append-nil}
use Rattle.std.proofs.lemmas.Bool.{cases_lt}
use Rattle.std.proofs.lemmas.Bool.Decides.{nat_tests}
use Rattle.std.proofs.lemmas.Int.{ints, clamps}
use Rattle.std.specs.Prelude.{ℤ, pos, ◌+ℤ◌, ◌-ℤ◌, min, max, nat_lt, nat_le, ◌&&◌, ◌==◌, int_lt, unsigned_abs, if◌then◌else◌}
use Rattle.std.specs.List.{range_with_len}
use Rattle.std.specs.Int.{int_min, int_max}
use Rattle.wf_model.specs.declared.expr.Expr.{fold-roll-Expr}
use Rattle.wf_model.specs.Plans.{domain_of, field_of}
use Rattle.wf_model.specs.Reads.{reads_of, margin_of}
use Rattle.wf_model.specs.Patches.{Split, split_of, size_of, span_list, own_box, memory_box}
use Rattle.wf_model.specs.DemoCase.{demo_plan, columns_layout}
use Rattle.wf_model.specs.Demo.{first_column, end_column}
use Rattle.wf_laws.proofs.Bools.{split_bool}

-- a range in two parts
pub range-split : (a m n : ℕ) → range_with_len a (m + n) ≡ range_with_len a m ++ range_with_len (a + m) n
range-split a zero n = let none : 0 + n ≡ n = omega arith in let same : a + 0 ≡ a = omega arith in rw (none, same) refl
range-split a (suc m) n =
    ap (range_with_len a) (moved_out m n)
    ∙ ap (λ (ks : List ℕ). a ∷ ks) (range-split (a + 1) m n ∙ ap (λ (k : ℕ). range_with_len (a + 1) m ++ range_with_len k n) (moved_in a m))
  where
    moved_out : (m n : ℕ) → suc m + n ≡ suc (m + n)
    moved_out m n = omega arith

    moved_in : (a m : ℕ) → a + 1 + m ≡ a + suc m
    moved_in a m = omega arith

-- a range from further on
map-shifted : (low a n : ℕ) → map (λ k. pos low +ℤ pos k) (range_with_len a n) ≡ map pos (range_with_len (low + a) n)
map-shifted low a zero = refl
map-shifted low a (suc n) = ap (λ (zs : List ℤ). pos (low + a) ∷ zs) (map-shifted low (a + 1) n ∙ ap (λ (k : ℕ). map pos (range_with_len k n)) (omega arith))

-- how many numbers
size-is : (low high : ℕ) → size_of (record { low = pos low; high = pos high }) ≡ high - low
size-is low high =
    ⊎_elim
    (λ t. let less : low < high = grind (arith, ints, t) in (λ n. if t n then unsigned_abs (pos high -ℤ pos low) else 0) ∙ omega (arith, ints))
    (λ t. let more : high ≤ low = grind (arith, ints, t) in (λ n. if t n then unsigned_abs (pos high -ℤ pos low) else 0) ∙ omega arith)
    (split_bool (int_lt (pos low) (pos high)))

-- the numbers of a span between two numbers
pub span_list-is : (low high : ℕ) → span_list (record { low = pos low; high = pos high }) ≡ map pos (range_with_len low (high - low))
span_list-is low high =
    ap (λ (n : ℕ). map (λ k. pos low +ℤ pos k) (range_with_len 0 n)) (size-is low high)
    ∙ map-shifted low 0 (high - low)
    ∙ ap (λ (k : ℕ). map pos (range_with_len k (high - low))) (plus_none low)
  where
    plus_none : (n : ℕ) → n + 0 ≡ n
    plus_none n = omega arith

-- the last block is no longer than the others
same_end : (b : Bool) (e : ℕ) → e + 1 + (if b then 0 else 0) ≡ e + 1
same_end true e = omega arith
same_end false e = omega arith

-- the ends of a memory, cut to the domain
cut_low : (f : ℕ) → int_max (pos 1) (pos (f + 1) -ℤ pos 1) ≡ pos (max 1 f)
cut_low f = omega (arith, ints, clamps)

cut_high : (n e : ℕ) → int_min (pos n +ℤ pos 1) (pos (e + 1) +ℤ pos 1) ≡ pos (min (n + 1) (e + 2))
cut_high n e = omega (arith, ints, clamps)

all_rows : (n : ℕ) → min (n + 1) (n + 2) ≡ n + 1
all_rows n = omega arith

-- the column, if the domain has it
abbrev pub beside : ℕ → ℕ → List ℕ
beside n i = if nat_lt 0 i && nat_le i n then i ∷ [] else []

-- it has it, or it lies past it
beside_there : (n i : ℕ) → 1 ≤ i → i ≤ n → beside n i ≡ i ∷ []
beside_there n i l h = let t : (nat_lt 0 i && nat_le i n) ≡ true = grind (arith, nat_tests) in λ k. if t k then i ∷ [] else []

beside_past : (n i : ℕ) → n < i → beside n i ≡ []
beside_past n i h = let t : (nat_lt 0 i && nat_le i n) ≡ false = grind (arith, nat_tests) in λ k. if t k then i ∷ [] else []

-- columns from f + 1 to e, and the one after them
columns_on : (f e n : ℕ) → f ≤ e → e ≤ n → range_with_len (f + 1) (min (n + 1) (e + 2) - (f + 1)) ≡ range_with_len (f + 1) (e - f) ++ beside n (e + 1)
columns_on f e n l h =
    ⊎_elim
    (λ less. let count : min (n + 1) (e + 2) - (f + 1) ≡ (e - f) + 1 = omega arith in
    let last : f + 1 + (e - f) ≡ e + 1 = omega arith in
    ap (range_with_len (f + 1)) count ∙ range-split (f + 1) (e - f) 1 ∙ (λ k. range_with_len (f + 1) (e - f) ++ last k ∷ []) ∙ ap (λ (ks : List ℕ). range_with_len (f + 1) (e - f) ++ ks) (sym (beside_there n (e + 1) (omega arith) (omega arith))))
    (λ more. let count : min (n + 1) (e + 2) - (f + 1) ≡ e - f = omega arith in
    ap (range_with_len (f + 1)) count ∙ sym (append-nil (range_with_len (f + 1) (e - f))) ∙ ap (λ (ks : List ℕ). range_with_len (f + 1) (e - f) ++ ks) (sym (beside_past n (e + 1) (omega arith))))
    (cases_lt e n)

-- and the one before them
pub columns_are : (f e n : ℕ) → f ≤ e → e ≤ n → f < n → range_with_len (max 1 f) (min (n + 1) (e + 2) - max 1 f) ≡ beside n f ++ range_with_len (f + 1) (e - f) ++ beside n (e + 1)
columns_are zero e n l h u = columns_on 0 e n l h
columns_are (suc g) e n l h u =
    let low : max 1 (suc g) ≡ suc g = omega arith in
    let count : min (n + 1) (e + 2) - suc g ≡ suc (min (n + 1) (e + 2) - (suc g + 1)) = omega arith in
    (λ k. range_with_len (low k) (min (n + 1) (e + 2) - low k))
    ∙ ap (range_with_len (suc g)) count
    ∙ ap (λ (ks : List ℕ). suc g ∷ ks) (columns_on (suc g) e n l h)
    ∙ ap (λ (ks : List ℕ). ks ++ range_with_len (suc g + 1) (e - suc g) ++ beside n (e + 1)) (sym (beside_there n (suc g) (omega arith) (omega arith)))

-- the demo asks for cells one beyond a patch's own
pub margin_is : (nx ny steps : ℕ) → margin_of (demo_plan nx ny steps) ≡ 1
unfolding margin_of reads_of
margin_is nx ny steps = simp fold-roll-Expr refl

module _ (nx ny steps px : ℕ) (some : 1 ≤ px) (room : px ≤ nx) where
  abbrev wide : Split
  wide = split_of (columns_layout px)

  -- a patch's own box, and its memory's
  pub own_is : (p : ℕ) → p < px → own_box (demo_plan nx ny steps) wide 1 p 0 ≡
      record { x = record { low = pos (first_column nx px p); high = pos (end_column nx px p) }; y = record { low = pos 1; high = pos (ny + 1) } }
  unfolding own_box domain_of field_of
  own_is p h =
      let width : nx + 1 - 1 ≡ nx = omega arith in
      let height : ny + 1 - 1 ≡ ny = omega arith in
      let no_wider : nx + 0 - nx ≡ 0 = omega arith in
      let no_higher : ny + 0 - ny ≡ 0 = omega arith in
      let x_high = same_end (p + 1 == px) ((p + 1) * nx / px) in
      let y_low : 0 * ny / 1 + 1 ≡ 1 = omega arith in
      let y_high : 1 * ny / 1 + 1 + 0 ≡ ny + 1 = omega arith in
      rw (mod-eq_of_lt h, div-eq_of_lt h, width, height, no_wider, no_higher)
      (λ n. record { x = record { low = pos (first_column nx px p); high = pos (x_high n) }; y = record { low = pos (y_low n); high = pos (y_high n) } })

  pub memory_is : (p : ℕ) → p < px → memory_box (demo_plan nx ny steps) wide 1 p 0 ≡
      record { x = record { low = pos (max 1 (p * nx / px)); high = pos (min (nx + 1) ((p + 1) * nx / px + 2)) }; y = record { low = pos 1; high = pos (ny + 1) } }
  unfolding memory_box domain_of field_of
  memory_is p h =
      let width : nx + 1 - 1 + 0 ≡ nx = omega arith in
      let height : ny + 1 - 1 + 0 ≡ ny = omega arith in
      let x_low = cut_low (p * nx / px) in
      let x_high = cut_high nx ((p + 1) * nx / px) in
      let y_high = cut_high ny ny ∙ ap pos (all_rows ny) in
      rw (margin_is nx ny steps, own_is p h, width, height)
      (λ n. record { x = record { low = x_low n; high = x_high n }; y = record { low = pos 1; high = y_high n } })
