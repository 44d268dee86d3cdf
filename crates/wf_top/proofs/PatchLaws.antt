-- Blocks of columns, lists of patches, and what a patch holds after a column was taken.
use Rattle.std.proofs.Common.{◌≡◌, ◌≢◌, ◌⊎◌, ℕ, ◌+◌, ◌-◌, ◌*◌, ◌/◌, ◌<◌, ◌≤◌, List, [], ◌∷◌, ◌++◌, length, get_or, set, ℤ, pos, refl, sym, ap, ◌∙◌, subst, arith, inl, inr}
use Rattle.std.proofs.lemmas.Bool.{cases_lt, cases_eq}
use Rattle.std.proofs.lemmas.List.{length-set, get_or-set_same, get_or-set_other, length_push}
use Rattle.std.proofs.Math.ListN.{get_or-append}
use Rattle.std.proofs.Math.Seq.{get_or-append_seam}
use Rattle.std.proofs.Math.Nat.{mul-le-mul_left, mul-le-mul_right, le_of_mul-le-mul_left, mul-div_cancel_left}
use Rattle.wf_top.specs.declared.patch.Patch.{Patch}
use Rattle.wf_top.specs.Cells.{cell}
use Rattle.wf_top.specs.Memories.{IsBlock, HasRows, Hold, Holds, Each, IsPatch, KeepsShape, Took, block_start}

-- ---- blocks

-- a block is not empty
pub block_some : (nx px p : ℕ) → 0 < px → px ≤ nx → block_start nx px p < block_start nx px (p + 1)
block_some nx px p some most = elim (cases_lt (p * nx / px) ((p + 1) * nx / px)) [
  | inl h ↦ h
  | inr h ↦ absurd (omega (arith, mul-le-mul_left px h))
]

-- blocks end with the last column
pub block_within : (nx px p : ℕ) → 0 < px → p ≤ px → block_start nx px p ≤ nx
block_within nx px p some h =
    let below : p * nx ≤ px * nx = mul-le-mul_right nx h in
    let bound : px * (p * nx / px) ≤ px * nx = omega (arith, below) in
    le_of_mul-le-mul_left bound some

-- where the first block begins
pub block_first : (nx px : ℕ) → block_start nx px 0 ≡ 0
block_first nx px = omega arith

-- where the last block ends
pub block_last : (nx px : ℕ) → 0 < px → block_start nx px px ≡ nx
block_last nx px some = mul-div_cancel_left nx some

-- a block that is not the first begins behind another column
pub block_after : (nx px p : ℕ) → 0 < px → px ≤ nx → 0 < p → 0 < block_start nx px p
block_after nx px p some most h =
    let e : p ≡ (p - 1) + 1 = omega arith in
    let below : block_start nx px (p - 1) < block_start nx px ((p - 1) + 1) = block_some nx px (p - 1) some most in
    subst (λ k. 0 < block_start nx px k) (sym e) (omega (arith, below))

-- ---- lists of patches

-- where the patch p was replaced
pub each_set : (P : ℕ → Patch → Type 0) (xs : List Patch) (p : ℕ) (y : Patch) → ((q : ℕ) → q < length xs → q ≢ p → (other : Patch) → P q (get_or xs q other)) → P p y → Each P (set xs p y)
each_set P xs p y others here q h other =
    let in_list : q < length xs = omega (arith, length-set xs p y) in
    elim (cases_eq q p) [
      | inl e ↦
          let p_in : p < length xs = omega arith in
          subst (λ k. P k (get_or (set xs p y) k other)) (sym e) (subst (P p) (sym (get_or-set_same xs p y other p_in)) here)
      | inr ne ↦ subst (P q) (sym (get_or-set_other xs p q y other ne)) (others q in_list ne other)
    ]

-- where a patch was added
pub each_push : (P : ℕ → Patch → Type 0) (xs : List Patch) (y : Patch) → Each P xs → P (length xs) y → Each P (xs ++ y ∷ [])
each_push P xs y before here q h other =
    elim (cases_lt q (length xs)) [
      | inl below ↦ subst (P q) (sym (get_or-append xs (y ∷ []) other q below)) (before q below other)
      | inr past ↦
          let e : q ≡ length xs = omega (arith, length_push xs y) in
          subst (λ k. P k (get_or (xs ++ y ∷ []) k other)) (sym e) (subst (P (length xs)) (sym (get_or-append_seam xs y [] other)) here)
    ]

-- ---- a patch that keeps its shape

block_kept : (nx first end : ℕ) (old new : Patch) → IsBlock nx first end old → KeepsShape old new → IsBlock nx first end new
block_kept nx first end old new b k = record {
  from = k.from ∙ b.from;
  west = omega (arith, k.from, k.west, b.west);
  own = omega (arith, k.own, b.own);
  width = ap (λ n. n + new.width) k.from ∙ ap (λ n. old.from + n) k.width ∙ b.width;
  some = b.some;
  within = b.within;
}

rows_kept : (ny : ℕ) (old new : Patch) → HasRows ny old → KeepsShape old new → HasRows ny new
rows_kept ny old new r k = record {
  values = k.values ∙ r.values ∙ ap (λ w. ny * w) (sym k.width);
  scratch = k.scratch ∙ r.scratch ∙ ap (λ w. ny * w) (sym k.width);
}

pub patch_kept : (nx ny px p : ℕ) (old new : Patch) → IsPatch nx ny px p old → KeepsShape old new → IsPatch nx ny px p new
patch_kept nx ny px p old new i k = record {
  block = block_kept nx (block_start nx px p) (block_start nx px (p + 1)) old new i.block k;
  rows = rows_kept ny old new i.rows k;
}

-- a cell of the new memory, by the old one's columns
pub at_new : (old new : Patch) → KeepsShape old new → (r c : ℕ) (grid : ℕ → ℕ → ℕ)
    → cell new.values.items old.width r c ≡ pos (grid (r + 1) (old.from + c + 1)) → cell new.values.items new.width r c ≡ pos (grid (r + 1) (new.from + c + 1))
at_new old new shape r c grid e = ap (λ w. cell new.values.items w r c) shape.width ∙ e ∙ ap (λ f. pos (grid (r + 1) (f + c + 1))) (sym shape.from)

-- all columns hold a grid
pub hold_all : (nx ny first end : ℕ) (grid : ℕ → ℕ → ℕ) (patch : Patch) → Holds ny grid grid grid patch → Hold grid ny patch 0 patch.width
hold_all nx ny first end grid patch h r c hr low high =
    elim (cases_lt c patch.west) [
      | inl before ↦ h.before r c hr low before
      | inr past ↦ elim (cases_lt c (patch.west + patch.own)) [
        | inl inside ↦ h.inside r c hr past inside
        | inr behind ↦ h.behind r c hr behind high
      ]
    ]

-- and so does each part of them
pub hold_parts : (nx ny first end : ℕ) (grid : ℕ → ℕ → ℕ) (patch : Patch) → IsBlock nx first end patch → Hold grid ny patch 0 patch.width → Holds ny grid grid grid patch
hold_parts nx ny first end grid patch b h = record {
  inside = λ r c hr low high. h r c hr (omega arith) (omega (arith, b.from, b.west, b.own, b.width, b.within));
  before = λ r c hr low high. h r c hr (omega arith) (omega (arith, b.from, b.west, b.own, b.width, b.within, b.some));
  behind = λ r c hr low high. h r c hr (omega arith) high;
}

-- ---- a column was taken

-- columns apart from it hold what they held
hold_apart : (grid : ℕ → ℕ → ℕ) (ny c a b x y : ℕ) (numbers : ℕ → ℤ) (old new : Patch) → KeepsShape old new → Took c ny numbers old new
    → a ≡ x → b ≡ y → b ≤ old.width → (c < a) ⊎ (b ≤ c) → Hold grid ny old a b → Hold grid ny new x y
hold_apart grid ny c a b x y numbers old new shape took ea eb within apart held r q hr low high =
    let low' : a ≤ q = omega arith in
    let high' : q < b = omega arith in
    let ne : q ≡ c → ⊥ = λ e. elim apart [ inl h ↦ omega arith | inr h ↦ omega arith ] in
    at_new old new shape r q grid (took.others r q hr (omega arith) ne ∙ held r q hr low' high')

-- the column holds what was taken
hold_taken : (grid : ℕ → ℕ → ℕ) (ny c x y : ℕ) (numbers : ℕ → ℤ) (old new : Patch) → KeepsShape old new → Took c ny numbers old new
    → c ≡ x → y ≡ c + 1 → ((r : ℕ) → r < ny → numbers r ≡ pos (grid (r + 1) (old.from + c + 1))) → Hold grid ny new x y
hold_taken grid ny c x y numbers old new shape took ex ey same r q hr low high =
    let e : c ≡ q = omega arith in
    subst (λ k. cell new.values.items new.width r k ≡ pos (grid (r + 1) (new.from + k + 1))) e (at_new old new shape r c grid (took.taken r hr ∙ same r hr))

-- the column before the own ones was taken
pub took_west : (nx ny first end : ℕ) (own west east : ℕ → ℕ → ℕ) (numbers : ℕ → ℤ) (old new : Patch) → IsBlock nx first end old → 0 < first → KeepsShape old new → Took 0 ny numbers old new
    → ((r : ℕ) → r < ny → numbers r ≡ pos (own (r + 1) (old.from + 0 + 1)))
    → Holds ny own west east old → Holds ny own own east new
took_west nx ny first end own west east numbers old new b after shape took same h =
    let one : old.west ≡ 1 = omega (arith, b.from, b.west) in
    let own_in : old.west + old.own ≤ old.width = omega (arith, b.from, b.west, b.own, b.width, b.within) in
    record {
      inside = hold_apart own ny 0 old.west (old.west + old.own) new.west (new.west + new.own) numbers old new shape took (sym shape.west) (omega (arith, shape.west, shape.own)) own_in (inl (omega arith)) h.inside;
      before = hold_taken own ny 0 0 new.west numbers old new shape took refl (omega (arith, shape.west)) same;
      behind = hold_apart east ny 0 (old.west + old.own) old.width (new.west + new.own) new.width numbers old new shape took (omega (arith, shape.west, shape.own)) (sym shape.width) (omega arith) (inl (omega arith)) h.behind;
    }

-- the column behind the own ones was taken
pub took_east : (nx ny first end : ℕ) (own west east : ℕ → ℕ → ℕ) (numbers : ℕ → ℤ) (old new : Patch) → IsBlock nx first end old → end < nx → KeepsShape old new → Took (old.west + old.own) ny numbers old new
    → ((r : ℕ) → r < ny → numbers r ≡ pos (own (r + 1) (old.from + (old.west + old.own) + 1)))
    → Holds ny own west east old → Holds ny own west own new
took_east nx ny first end own west east numbers old new b more shape took same h =
    let last : old.width ≡ old.west + old.own + 1 = omega (arith, b.from, b.west, b.own, b.width) in
    record {
      inside = hold_apart own ny (old.west + old.own) old.west (old.west + old.own) new.west (new.west + new.own) numbers old new shape took (sym shape.west) (omega (arith, shape.west, shape.own)) (omega arith) (inr (omega arith)) h.inside;
      before = hold_apart west ny (old.west + old.own) 0 old.west 0 new.west numbers old new shape took refl (sym shape.west) (omega arith) (inr (omega arith)) h.before;
      behind = hold_taken own ny (old.west + old.own) (new.west + new.own) new.width numbers old new shape took (omega (arith, shape.west, shape.own)) (omega (arith, shape.width)) same;
    }
