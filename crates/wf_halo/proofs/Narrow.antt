-- A walk over a box in which nothing passes but in a smaller one.
use Rattle.std.proofs.Common.{◌≡◌, ⊎_elim, ℕ, ◌+◌, Bool, true, false, List, [], ◌∷◌, ◌++◌, map, flat_map, sym, ap, subst, ◌∙◌, arith}
use Rattle.std.proofs.lemmas.Int.{ints}
use Rattle.std.proofs.lemmas.Grind.{flat_map-append}
use Rattle.std.specs.Prelude.{ℤ, pos, ◌+ℤ◌, ◌-ℤ◌, ◌≤ℤ◌, ◌<ℤ◌, filter, ◌&&◌, int_lt, unsigned_abs, if◌then◌else◌}
use Rattle.std.specs.List.{range_with_len}
use Rattle.wf_model.specs.declared.plan.Plan.{Plan}
use Rattle.wf_model.specs.Plans.{nz, up_to}
use Rattle.wf_model.specs.Patches.{Span, Box, Cell, in_span, in_box, size_of, span_list, cells_in}
use Rattle.wf_laws.proofs.Bools.{and_left, and_right, and_both, split_bool, differ}
use Rattle.wf_laws.proofs.Cells.{span-holds}
use Rattle.wf_laws.proofs.Members.{In, In-map_out, In-range_out, filter-none, flat_map-same}
use Rattle.wf_laws.proofs.Spans.{span-in, span-low, span-high}
use Rattle.wf_field.specs.Settings.{cell_at}
use Rattle.wf_halo.proofs.Lists.{alone, filter-each, filter-flat_map, flat_map-map, flat_map-none, map_join, map_moved}

-- ---- spans

-- so many numbers from one on
abbrev from_list : ℤ → ℕ → List ℤ
from_list low n = map (λ x. low +ℤ pos x) (range_with_len 0 n)

from_join : (low : ℤ) (m n : ℕ) → from_list low (m + n) ≡ from_list low m ++ from_list (low +ℤ pos m) n
from_join low m n =
    map_join (λ x. low +ℤ pos x) 0 m n
    ∙ ap (λ xs. from_list low m ++ xs) (moved ∙ same n)
  where
    moved : map (λ x. low +ℤ pos x) (range_with_len (0 + m) n) ≡ map (λ x. low +ℤ pos (m + x)) (range_with_len 0 n)
    moved = let e : 0 + m ≡ m + 0 = omega arith in ap (λ a. map (λ x. low +ℤ pos x) (range_with_len a n)) e ∙ map_moved (λ x. low +ℤ pos x) m 0 n

    far : (x : ℕ) → low +ℤ pos (m + x) ≡ (low +ℤ pos m) +ℤ pos x
    far x = omega (arith, ints)

    same : (n : ℕ) → map (λ x. low +ℤ pos (m + x)) (range_with_len 0 n) ≡ map (λ x. (low +ℤ pos m) +ℤ pos x) (range_with_len 0 n)
    same n = ap (λ (g : ℕ → ℤ). map g (range_with_len 0 n)) (λ i x. far x i)

In-from : (low : ℤ) (n : ℕ) (c : ℤ) → In c (from_list low n) → (low ≤ℤ c) × (c <ℤ (low +ℤ pos n))
In-from low n c h =
    let w = In-map_out (λ x. low +ℤ pos x) c (range_with_len 0 n) h in
    let small = In-range_out w.0 0 n w.1 in
    let at = w.2 in
    let below = small.1 in
    (omega (arith, ints), omega (arith, ints))

-- the numbers of a span lie in it
In-span_out : (u : Span) (c : ℤ) → In c (span_list u) → in_span u c ≡ true
In-span_out u c h =
    let w = In-map_out (λ x. u.low +ℤ pos x) c (range_with_len 0 (size_of u)) h in
    let small = In-range_out w.0 0 (size_of u) w.1 in
    subst (λ (z : ℤ). in_span u z ≡ true) (sym w.2) (span-holds u w.0 (omega (arith, small.1)))

-- what the numbers of a span give, where those outside a span in it give nothing
flat_narrow : {X : Type 0} (f : ℤ → List X) (s t : Span) → ((c : ℤ) → in_span s c ≡ true → in_span t c ≡ true) → ((c : ℤ) → in_span t c ≡ true → in_span s c ≡ false → f c ≡ []) →
    flat_map f (span_list t) ≡ flat_map f (span_list s)
flat_narrow f s t within none = ⊎_elim (λ h. some h) (λ h. empty h) (split_bool (int_lt s.low s.high))
  where
    size_none : (u : Span) → int_lt u.low u.high ≡ false → size_of u ≡ 0
    size_none u h = λ n. if h n then unsigned_abs (u.high -ℤ u.low) else 0

    size_some : (u : Span) → u.low <ℤ u.high → size_of u ≡ unsigned_abs (u.high -ℤ u.low)
    size_some u h = let x : int_lt u.low u.high ≡ true = grind (arith, ints) in λ n. if x n then unsigned_abs (u.high -ℤ u.low) else 0

    out_low : (c : ℤ) → c <ℤ s.low → in_span s c ≡ false
    out_low c h = ⊎_elim (λ e. let l : s.low ≤ℤ c = span-low s c e in absurd (omega (arith, ints))) (λ e. e) (split_bool (in_span s c))

    out_high : (c : ℤ) → s.high ≤ℤ c → in_span s c ≡ false
    out_high c h = ⊎_elim (λ e. let l : c <ℤ s.high = span-high s c e in absurd (omega (arith, ints))) (λ e. e) (split_bool (in_span s c))

    outside : (u : Span) (c : ℤ) → int_lt u.low u.high ≡ false → in_span u c ≡ false
    outside u c h = ⊎_elim (λ e. let l : u.low ≤ℤ c = span-low u c e in let g : c <ℤ u.high = span-high u c e in absurd (grind (arith, ints))) (λ e. e) (split_bool (in_span u c))

    empty : int_lt s.low s.high ≡ false → flat_map f (span_list t) ≡ flat_map f (span_list s)
    empty h =
        flat_map-none f (span_list t) (λ c at. none c (In-span_out t c at) (outside s c h))
        ∙ sym (ap (λ n. flat_map f (from_list s.low n)) (size_none s h))

    some : int_lt s.low s.high ≡ true → flat_map f (span_list t) ≡ flat_map f (span_list s)
    some h =
        let less : s.low <ℤ s.high = grind (arith, ints, h) in
        let first = within s.low (span-in s s.low (omega (arith, ints)) less) in
        let last = within (s.high -ℤ pos 1) (span-in s (s.high -ℤ pos 1) (omega (arith, ints)) (omega (arith, ints))) in
        let low : t.low ≤ℤ s.low = span-low t s.low first in
        let high : (s.high -ℤ pos 1) <ℤ t.high = span-high t (s.high -ℤ pos 1) last in
        let a : ℕ = unsigned_abs (s.low -ℤ t.low) in
        let b : ℕ = size_of s in
        let d : ℕ = unsigned_abs (t.high -ℤ s.high) in
        let sb : size_of s ≡ unsigned_abs (s.high -ℤ s.low) = size_some s less in
        let st : size_of t ≡ unsigned_abs (t.high -ℤ t.low) = size_some t (omega (arith, ints)) in
        let all : size_of t ≡ a + (b + d) = omega (arith, ints) in
        let at : t.low +ℤ pos a ≡ s.low = omega (arith, ints) in
        let end : s.low +ℤ pos b ≡ s.high = omega (arith, ints) in
        let before : flat_map f (from_list t.low a) ≡ [] = flat_map-none f (from_list t.low a) (λ c m.
        let w = In-from t.low a c m in let l = w.0 in let u = w.1 in
        none c (span-in t c l (omega (arith, ints))) (out_low c (omega (arith, ints)))) in
        let behind : flat_map f (from_list s.high d) ≡ [] = flat_map-none f (from_list s.high d) (λ c m.
        let w = In-from s.high d c m in let l = w.0 in let u = w.1 in
        none c (span-in t c (omega (arith, ints)) (omega (arith, ints))) (out_high c l)) in
        ap (λ (n : ℕ). flat_map f (from_list t.low n)) all
        ∙ ap (flat_map f) (from_join t.low a (b + d))
        ∙ flat_map-append f (from_list t.low a) (from_list (t.low +ℤ pos a) (b + d))
        ∙ ap (λ ys. ys ++ flat_map f (from_list (t.low +ℤ pos a) (b + d))) before
        ∙ ap (λ (z : ℤ). flat_map f (from_list z (b + d))) at
        ∙ ap (flat_map f) (from_join s.low b d)
        ∙ flat_map-append f (from_list s.low b) (from_list (s.low +ℤ pos b) d)
        ∙ ap (λ ys. flat_map f (from_list s.low b) ++ ys) (ap (λ (z : ℤ). flat_map f (from_list z d)) end ∙ behind)
        ∙ alone (flat_map f (from_list s.low b))

-- ---- boxes

-- what passes of a row of a box
abbrev passing : ℕ → (Cell → Bool) → Box → ℕ → ℤ → List Cell
passing f test b k j = filter test (map (λ i. cell_at f k j i) (span_list b.x))

-- what passes of the cells of a box is what passes of those of a box in it, where none passes outside that one
pub narrow :
    (plan : Plan) (f : ℕ) (test : Cell → Bool) (s t : Box)
    → ((c : ℤ) → in_span s.x c ≡ true → in_span t.x c ≡ true) → ((c : ℤ) → in_span s.y c ≡ true → in_span t.y c ≡ true)
    → ((k : ℕ) (j i : ℤ) → in_box t j i ≡ true → test (cell_at f k j i) ≡ true → in_box s j i ≡ true)
    → filter test (cells_in plan f t) ≡ filter test (cells_in plan f s)
unfolding cells_in
narrow plan f test s t in_x in_y passes =
    by_rows t ∙ ap (λ (g : ℕ → List Cell). flat_map g (up_to (nz plan f))) (λ n k. plane k n) ∙ sym (by_rows s)
  where
    by_rows : (b : Box) → filter test (flat_map (λ k. flat_map (λ j. map (λ i. cell_at f k j i) (span_list b.x)) (span_list b.y)) (up_to (nz plan f))) ≡ flat_map (λ k. flat_map (passing f test b k) (span_list b.y)) (up_to (nz plan f))
    by_rows b =
        filter-flat_map test (λ k. flat_map (λ j. map (λ i. cell_at f k j i) (span_list b.x)) (span_list b.y)) (up_to (nz plan f))
        ∙ ap (λ (g : ℕ → List Cell). flat_map g (up_to (nz plan f))) (λ n k. filter-flat_map test (λ j. map (λ i. cell_at f k j i) (span_list b.x)) (span_list b.y) n)

    -- no cell passes that is not in the smaller box
    fails : (k : ℕ) (j i : ℤ) → in_span t.y j ≡ true → in_span t.x i ≡ true → (in_box s j i ≡ true → ⊥) → test (cell_at f k j i) ≡ false
    fails k j i y x out = ⊎_elim (λ (e : test (cell_at f k j i) ≡ true). absurd (out (passes k j i (and_here y x) e))) (λ e. e) (split_bool (test (cell_at f k j i)))
      where
        and_here : {a b : Bool} → a ≡ true → b ≡ true → (a && b) ≡ true
        and_here {a} {b} p q = and_both a b p q

    -- a row that both have
    same_row : (k : ℕ) (j : ℤ) → in_span s.y j ≡ true → passing f test t k j ≡ passing f test s k j
    same_row k j here =
        by t.x ∙ flat_narrow (λ i. if test (cell_at f k j i) then cell_at f k j i ∷ [] else []) s.x t.x in_x
        (λ i x out. ap (λ (b : Bool). if b then cell_at f k j i ∷ [] else []) (fails k j i (in_y j here) x (λ e. differ (sym (and_right (in_span s.y j) (in_span s.x i) e) ∙ out))))
        ∙ sym (by s.x)
      where
        by : (u : Span) → filter test (map (λ i. cell_at f k j i) (span_list u)) ≡ flat_map (λ i. if test (cell_at f k j i) then cell_at f k j i ∷ [] else []) (span_list u)
        by u = filter-each test (map (λ i. cell_at f k j i) (span_list u)) ∙ flat_map-map (λ c. if test c then c ∷ [] else []) (λ i. cell_at f k j i) (span_list u)

    -- and one that the smaller box does not have
    no_row : (k : ℕ) (j : ℤ) → in_span t.y j ≡ true → in_span s.y j ≡ false → passing f test t k j ≡ []
    no_row k j here out = filter-none test (map (λ i. cell_at f k j i) (span_list t.x)) (λ c at.
        let w = In-map_out (λ i. cell_at f k j i) c (span_list t.x) at in
        let x : in_span t.x w.0 ≡ true = In-span_out t.x w.0 w.1 in
        subst (λ (z : Cell). test z ≡ false) (sym w.2) (fails k j w.0 here x (λ e. differ (sym (and_left (in_span s.y j) (in_span s.x w.0) e) ∙ out))))

    plane : (k : ℕ) → flat_map (passing f test t k) (span_list t.y) ≡ flat_map (passing f test s k) (span_list s.y)
    plane k =
        flat_narrow (passing f test t k) s.y t.y in_y (λ j here out. no_row k j here out)
        ∙ flat_map-same (passing f test t k) (passing f test s k) (span_list s.y) (λ j at. same_row k j (In-span_out s.y j at))
