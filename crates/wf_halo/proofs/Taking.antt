-- Cells that are set one after the other, to the numbers of a list.
use Rattle.std.proofs.Common.{◌≡◌, ⊎_elim, ℕ, zero, suc, ◌+◌, ◌-◌, ◌≤◌, ◌<◌, true, List, [], ◌∷◌, ◌++◌, length, get_or, map, flat_map, take, drop, refl, sym, ap, subst, ◌∙◌, All, arith}
use Rattle.std.proofs.lemmas.Int.{ints}
use Rattle.std.proofs.lemmas.List.{map-append, take_more, get_or-drop, get_or-take, get_or-append-add, length-append, length-drop, length-take-le}
use Rattle.std.proofs.lemmas.Grind.{flat_map-append}
use Rattle.std.proofs.Math.ListN.{get_or-append}
use Rattle.std.specs.Prelude.{ℤ, pos, ◌+ℤ◌, ◌-ℤ◌, unsigned_abs}
use Rattle.std.specs.List.{range_with_len}
use Rattle.wf_model.specs.declared.layout.Layout.{Layout}
use Rattle.wf_model.specs.declared.plan.Plan.{Plan}
use Rattle.wf_model.specs.Kept.{IsKeptCell}
use Rattle.wf_model.specs.Patches.{Split, Cell, split_of}
use Rattle.wf_laws.proofs.Members.{In-map_out, In-range_out, In-flat_map, In-get_or, In-All, All-In}
use Rattle.wf_field.specs.Kept.{KeptMemory, IsSamePatch, Keeps}
use Rattle.wf_field.specs.Rows.{SetsKept, row_cells, row_number}
use Rattle.wf_field.specs.Settings.{cell_at}
use Rattle.wf_field.proofs.Joining.{both_kept, cells_kept, numbers_kept, kept_patch}
use Rattle.wf_halo.specs.declared.parts.Part.{Part}
use Rattle.wf_halo.specs.Parts.{is_sent}
use Rattle.wf_halo.specs.Walks.{Begins, KeepsCells, SetsBy, sent}
use Rattle.wf_halo.proofs.Lists.{alone}
use Rattle.wf_halo.proofs.Walking.{sent_yes}

pub length-map : {X Y : Type 0} (f : X → Y) (xs : List X) → length (map f xs) ≡ length xs
length-map f [] = refl
length-map f (x ∷ xs) = let e : length (map f xs) ≡ length xs = length-map f xs in omega (arith, e)

-- ---- one cell

-- a row of one cell
pub one_row : (P : Cell → Type 0) (f k n : ℕ) (j i y x : ℤ) → n ≡ 1 → y ≡ j → x ≡ i → P (cell_at f k j i) → All P (row_cells f k y x n)
one_row P f k n j i y x en ey ex h =
    In-All P (row_cells f k y x n) (λ c at.
    let w = In-map_out (λ (m : ℕ). cell_at f k y (x +ℤ pos m)) c (range_with_len 0 n) at in
    let small = In-range_out w.0 0 n w.1 in
    let none : w.0 ≡ 0 = omega (arith, small.1, en) in
    let column : x +ℤ pos w.0 ≡ i = ap (λ (m : ℕ). x +ℤ pos m) none ∙ stays x ∙ ex in
    subst P (sym (w.2 ∙ (λ m. cell_at f k (ey m) (column m)))) h)
  where
    stays : (z : ℤ) → z +ℤ pos 0 ≡ z
    stays z = omega (arith, ints)

-- is set to the first number
pub one_set : (plan : Plan) (split : Split) (d p f k : ℕ) (j i y x : ℤ) (ys values : List ℤ) (old new : List (List ℤ)) (v : Cell → ℤ) → y ≡ j → x ≡ i → ys ≡ take 1 values → 1 ≤ length values → get_or values 0 (pos 0) ≡ v (cell_at f k j i) →
    SetsKept plan split d p (row_number x ys) (row_cells f k y x (length ys)) old new → SetsKept plan split d p v (cell_at f k j i ∷ []) old new
one_set plan split d p f k j i y x ys values old new v ey ex ety some first h =
    numbers_kept plan split d p (row_number x ys) v (cell_at f k j i ∷ []) old new
    (λ c at. ⊎_elim
    (λ (e : c ≡ cell_at f k j i).
    ap (row_number x ys) e ∙ ap (λ (z : ℤ). get_or ys (unsigned_abs (i -ℤ z)) (pos 0)) ex ∙ ap (λ (n : ℕ). get_or ys n (pos 0)) (nothing i)
    ∙ ap (λ (xs : List ℤ). get_or xs 0 (pos 0)) ety ∙ get_or-take 1 values 0 (pos 0) (omega arith) ∙ first ∙ ap v (sym e))
    (λ t. absurd t) at)
    (cells_kept plan split d p (row_number x ys) (row_cells f k y x (length ys)) (cell_at f k j i ∷ []) old new
    (ap (row_cells f k y x) (ap (λ (xs : List ℤ). length xs) ety ∙ length-take-le 1 values some) ∙ (λ n. cell_at f k (ey n) ((stays x ∙ ex) n) ∷ [])) h)
  where
    nothing : (z : ℤ) → unsigned_abs (z -ℤ z) ≡ 0
    nothing z = omega (arith, ints)

    stays : (z : ℤ) → z +ℤ pos 0 ≡ z
    stays z = omega (arith, ints)

-- the first number is that of the cell
pub first_is : (p : Part) (c : Cell) (values : List ℤ) (v : Cell → ℤ) → is_sent p c.j c.i ≡ true → Begins values (map v (sent p (c ∷ []))) → get_or values 0 (pos 0) ≡ v c
first_is p c values v h b = let w : Begins values (map v (c ∷ [])) = subst (λ (xs : List Cell). Begins values (map v xs)) (sent_yes p c h) b in w 0 (omega arith)

-- ---- lists that grow

module _ (L R : ℕ → List Cell) (most : ℕ) (step : (n : ℕ) → n < most → L (n + 1) ≡ L n ++ R n) where
  one_more : (n : ℕ) → n < most → length (L n) + length (R n) ≡ length (L (n + 1))
  one_more n h = sym (length-append (L n) (R n)) ∙ ap (λ (xs : List Cell). length xs) (sym (step n h))

  grows : (m n : ℕ) → m + n ≤ most → length (L m) ≤ length (L (m + n))
  grows m zero h = let e : m + zero ≡ m = omega arith in subst (λ (k : ℕ). length (L m) ≤ length (L k)) (sym e) (omega arith)
  grows m (suc n) h =
      let e : m + suc n ≡ m + n + 1 = omega arith in
      let one = one_more (m + n) (omega arith) in
      let before = grows m n (omega arith) in
      subst (λ (k : ℕ). length (L m) ≤ length (L k)) (sym e) (omega (arith, one, before))

  grown : (m : ℕ) → m ≤ most → length (L m) ≤ length (L most)
  grown m h = let e : m + (most - m) ≡ most = omega arith in subst (λ (k : ℕ). length (L m) ≤ length (L k)) e (grows m (most - m) (omega arith))

  module _ (values : List ℤ) (long : length (L most) ≤ length values) (x used : ℕ) (below : x < most) (is : used ≡ length (L x)) where
    pub sum_fits : used + length (R x) ≤ length values
    sum_fits = let one = one_more x below in let all = grown (x + 1) (omega arith) in omega (arith, one, all, long, is)

    pub used_fits : used ≤ length values
    used_fits = omega (arith, sum_fits)

    pub rest_long : (rest : List ℤ) → rest ≡ drop used values → length (R x) ≤ length rest
    rest_long rest e = let l = ap (λ (xs : List ℤ). length xs) e ∙ length-drop used values in omega (arith, sum_fits, l)

    pub used_more : (r : ℕ) → r ≡ length (R x) → used + r ≡ length (L (x + 1))
    used_more r e = let one = one_more x below in omega (arith, one, is, e)

-- ---- some cells, and others behind them

pub taken_more :
    (plan : Plan) (layout : Layout) (values rest : List ℤ) (used : ℕ) (xs ys zs : List Cell) (old mid new : KeptMemory) → zs ≡ xs ++ ys → used ≡ length xs → rest ≡ drop used values → IsSamePatch old mid
    → SetsBy plan layout values xs old mid → SetsBy plan layout rest ys mid new → SetsBy plan layout values zs old new
taken_more plan layout values rest used xs ys zs old mid new all is behind same before now =
    λ v b.
    let numbers : map v zs ≡ map v xs ++ map v ys = ap (map v) all ∙ map-append v xs ys in
    let w : Begins values (map v xs ++ map v ys) = subst (Begins values) numbers b in
    let used_is : used ≡ length (map v xs) = is ∙ sym (length-map v xs) in
    let first : Begins values (map v xs) = λ m h. w m (front (map v xs) (map v ys) m h) ∙ get_or-append (map v xs) (map v ys) (pos 0) m h in
    let second : Begins rest (map v ys) = λ m h.
    ap (λ (us : List ℤ). get_or us m (pos 0)) behind ∙ get_or-drop used values m (pos 0)
    ∙ w (used + m) (back (map v xs) (map v ys) used m used_is h)
    ∙ ap (λ (q : ℕ). get_or (map v xs ++ map v ys) (q + m) (pos 0)) used_is
    ∙ get_or-append-add (map v xs) (map v ys) m (pos 0) in
    cells_kept plan (split_of layout) old.domain old.patch v (xs ++ ys) zs old.levels new.levels (sym all)
    (both_kept plan (split_of layout) old.domain old.patch v xs ys old.levels mid.levels new.levels (before v first) (kept_patch same.domain same.patch (now v second)))
  where
    front : (us vs : List ℤ) (m : ℕ) → m < length us → m < length (us ++ vs)
    front us vs m h = let l = length-append us vs in omega (arith, l, h)

    back : (us vs : List ℤ) (q m : ℕ) → q ≡ length us → m < length vs → q + m < length (us ++ vs)
    back us vs q m e h = let l = length-append us vs in omega (arith, l, h, e)

-- a memory of the same patch keeps the same cells
pub kept_still : (plan : Plan) (layout : Layout) (p : Part) (old new : KeptMemory) → IsSamePatch old new → KeepsCells plan layout old p → KeepsCells plan layout new p
kept_still plan layout p old new same h =
    λ k j i level row column is.
    subst (λ (n : ℕ). IsKeptCell plan (split_of layout) n new.patch (cell_at p.field k j i)) (sym same.domain)
    (subst (λ (n : ℕ). IsKeptCell plan (split_of layout) old.domain n (cell_at p.field k j i)) (sym same.patch) (h k j i level row column is))

pub same_both : (old mid new : KeptMemory) → IsSamePatch old mid → IsSamePatch mid new → IsSamePatch old new
same_both old mid new one two = record { domain = two.domain ∙ one.domain; patch = two.patch ∙ one.patch }

-- what the items of a list give, one after the other
pub flat_each : {X : Type 0} (f : X → List Cell) (xs : List X) (n : ℕ) (d : X) → n < length xs → flat_map f (take (n + 1) xs) ≡ flat_map f (take n xs) ++ f (get_or xs n d)
flat_each f xs n d h =
    ap (flat_map f) (take_more xs n d h) ∙ flat_map-append f (take n xs) (get_or xs n d ∷ [])
    ∙ ap (λ ys. flat_map f (take n xs) ++ ys) (alone (f (get_or xs n d)))

-- what holds of all that they give holds of what one gives
pub all_of : {X : Type 0} (P : Cell → Type 0) (f : X → List Cell) (xs : List X) (i : ℕ) (d : X) → i < length xs → All P (flat_map f xs) → All P (f (get_or xs i d))
all_of P f xs i d h all =
    In-All P (f (get_or xs i d)) (λ c at. All-In P c (flat_map f xs) all (In-flat_map f c (get_or xs i d) xs (In-get_or xs i d h) at))

-- and a memory of the same patch keeps the same cells
pub keeps_still : (plan : Plan) (layout : Layout) (old new : KeptMemory) (cells : List Cell) → IsSamePatch old new → All (Keeps plan layout old) cells → All (Keeps plan layout new) cells
keeps_still plan layout old new cells same all =
    subst (λ (n : ℕ). All (IsKeptCell plan (split_of layout) n new.patch) cells) (sym same.domain)
    (subst (λ (n : ℕ). All (IsKeptCell plan (split_of layout) old.domain n) cells) (sym same.patch) all)
