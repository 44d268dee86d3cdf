-- The cells of a part, walked row by row.
use Rattle.std.proofs.Common.{◌≡◌, ℕ, ◌+◌, ◌<◌, true, false, List, [], ◌∷◌, ◌++◌, length, get_or, take, map, flat_map, append_assoc, sym, ap, subst, ◌∙◌, arith}
use Rattle.std.proofs.lemmas.Int.{ints}
use Rattle.std.proofs.lemmas.List.{map-append, take_more}
use Rattle.std.proofs.lemmas.Grind.{flat_map-append}
use Rattle.std.proofs.lemmas.List.FromFn.{map-range_with_len_more}
use Rattle.std.specs.Prelude.{ℤ, pos, ◌+ℤ◌, ◌≤ℤ◌, ◌<ℤ◌, if◌then◌else◌}
use Rattle.wf_model.specs.Patches.{Cell, in_span}
use Rattle.wf_model.specs.PatchEffect.{Memory}
use Rattle.wf_laws.proofs.Spans.{span-low, span-high}
use Rattle.wf_boxes.specs.Boxes.{IsNear, IsWide}
use Rattle.wf_field.specs.Settings.{cell_at}
use Rattle.wf_field.specs.Rows.{row_cells}
use Rattle.wf_halo.proofs.Lists.{alone, filter-append}
use Rattle.wf_halo.specs.declared.parts.Part.{Part}
use Rattle.wf_halo.specs.Parts.{IsPlaceOf, is_sent}
use Rattle.wf_halo.specs.Walks.{IsWalked, IsRowOf, IsColumnOf, sent, sent_number, sent_numbers}

-- a number between near ends is not far
wide : (low high c : ℤ) → IsNear low → IsNear high → in_span (record { low = low; high = high }) c ≡ true → IsWide c
wide low high c a b h =
    let l : low ≤ℤ c = span-low (record { low = low; high = high }) c h in
    let u : c <ℤ high = span-high (record { low = low; high = high }) c h in
    (omega (arith, ints, a.0, a.1, b.0, b.1), omega (arith, ints, a.0, a.1, b.0, b.1))

-- a cell of the part stands for a point
pub place_there : (p : Part) → IsWalked p → (j i y x : ℤ) → y ≡ j → x ≡ i → IsRowOf p j → IsColumnOf p i → IsPlaceOf p y x
place_there p w j i y x ey ex row column =
    subst (λ (z : ℤ). IsPlaceOf p z x) (sym ey) (subst (λ (z : ℤ). IsPlaceOf p j z) (sym ex)
    (record {
      wide_j = wide _ _ j w.ends.south w.ends.north row;
      wide_i = wide _ _ i w.ends.west w.ends.east column;
      some = w.some;
      in_y = w.rows j row;
      in_x = w.columns i column;
    }))

-- one cell
pub sent_yes : (p : Part) (c : Cell) → is_sent p c.j c.i ≡ true → sent p (c ∷ []) ≡ c ∷ []
sent_yes p c h = λ n. if h n then c ∷ [] else []

pub sent_no : (p : Part) (c : Cell) → is_sent p c.j c.i ≡ false → sent p (c ∷ []) ≡ []
sent_no p c h = λ n. if h n then c ∷ [] else []

pub sent-append : (p : Part) (xs ys : List Cell) → sent p (xs ++ ys) ≡ sent p xs ++ sent p ys
sent-append p xs ys = filter-append (λ (c : Cell). is_sent p c.j c.i) xs ys

-- the numbers of some cells, and of others behind them
pub numbers_more : (N : Cell → ℤ) (xs ys zs : List Cell) (old mid new : List ℤ) → zs ≡ xs ++ ys → mid ≡ old ++ map N xs → new ≡ mid ++ map N ys → new ≡ old ++ map N zs
numbers_more N xs ys zs old mid new all before now =
    now ∙ ap (λ us. us ++ map N ys) before ∙ append_assoc old (map N xs) (map N ys)
    ∙ ap (λ us. old ++ us) (sym (map-append N xs ys) ∙ ap (map N) (sym all))

pub sent_more : (p : Part) (m : Memory) (xs ys zs : List Cell) (old mid new : List ℤ) → zs ≡ xs ++ ys → mid ≡ old ++ sent_numbers p m xs → new ≡ mid ++ sent_numbers p m ys → new ≡ old ++ sent_numbers p m zs
sent_more p m xs ys zs old mid new all before now =
    numbers_more (sent_number p m) (sent p xs) (sent p ys) (sent p zs) old mid new (ap (sent p) all ∙ sent-append p xs ys) before now

-- what the first items of a list give, and one more
pub flat_take : {X : Type 0} (f : X → List Cell) (xs : List X) (i : ℕ) (r : X) → i < length xs → r ≡ get_or xs i r → flat_map f (take (i + 1) xs) ≡ flat_map f (take i xs) ++ f r
flat_take f xs i r h is =
    ap (flat_map f) (take_more xs i r h) ∙ flat_map-append f (take i xs) (get_or xs i r ∷ [])
    ∙ ap (λ ys. flat_map f (take i xs) ++ ys) (alone (f (get_or xs i r)) ∙ ap f (sym is))

-- the cells of a row, and one more
pub row_more : (f k n : ℕ) (j i : ℤ) → row_cells f k j i (n + 1) ≡ row_cells f k j i n ++ cell_at f k j (i +ℤ pos n) ∷ []
row_more f k n j i = map-range_with_len_more (λ (x : ℕ). cell_at f k j (i +ℤ pos x)) 0 n n (omega arith)
