-- The demo's values in the memories of patches.
use Rattle.std.proofs.Common.{◌≡◌, ℕ, zero, suc, ◌+◌, ◌-◌, ◌<◌, ◌≤◌, Bool, true, false, cond, List, ℤ, pos, unsigned_abs, refl, sym, ap, ◌∙◌, subst, arith, add-one}
use Rattle.std.proofs.lemmas.Bool.Decides.{nat_tests}
use Rattle.wf_model.specs.Demo.{demo_value, is_inner, weighted}
use Rattle.wf_top.specs.declared.patch.Patch.{Patch}
use Rattle.wf_top.specs.Cells.{cell, size_at, mean_at, next_at, is_within, first_at, AreSmall}
use Rattle.wf_top.specs.Memories.{IsBlock, Hold, Holds, KeepsShape}
use Rattle.wf_top.proofs.CellLaws.{next_inside, next_border, within_facts}
use Rattle.wf_top.proofs.PatchLaws.{at_new}

mean_small : (a b c d e : ℕ) → a < 100 → b < 100 → c < 100 → d < 100 → e < 100 → weighted a b c d e < 100
mean_small a b c d e p q r s t = omega arith

choice_small : (b : Bool) (x y : ℕ) → x < 100 → y < 100 → cond b x y < 100
choice_small true x y p q = p
choice_small false x y p q = q

-- a value has at most two digits
pub value_small : (nx ny n j i : ℕ) → demo_value nx ny n j i < 100
unfolding demo_value
value_small nx ny zero j i = omega arith
value_small nx ny (suc n) j i =
    let s = value_small nx ny n in
    choice_small _ _ _ (mean_small _ _ _ _ _ (s j i) (s j (i - 1)) (s j (i + 1)) (s (j - 1) i) (s (j + 1) i)) (s j i)

-- a value before the first step, in row r and column i counted from 0
pub value_first : (nx ny r i : ℕ) → first_at r i ≡ demo_value nx ny 0 (r + 1) (i + 1)
unfolding demo_value
value_first nx ny r i = let e : (i + 1) - 1 ≡ i = omega arith in let f : (r + 1) - 1 ≡ r = omega arith in rw (e, f) refl

-- a value not at the edge, after one step more
pub value_inner : (nx ny n j i : ℕ) → is_inner nx ny j i ≡ true
    → demo_value nx ny (n + 1) j i ≡ weighted (demo_value nx ny n j i) (demo_value nx ny n j (i - 1)) (demo_value nx ny n j (i + 1)) (demo_value nx ny n (j - 1) i) (demo_value nx ny n (j + 1) i)
unfolding demo_value
value_inner nx ny n j i e = rw (add-one n) (rw e refl)

-- a value at the edge, after one step more
pub value_edge : (nx ny n j i : ℕ) → is_inner nx ny j i ≡ false → demo_value nx ny (n + 1) j i ≡ demo_value nx ny n j i
unfolding demo_value
value_edge nx ny n j i e = rw (add-one n) (rw e refl)

-- the mean in a memory whose cells hold a grid
pub mean_is : (grid : ℕ → ℕ → ℕ) (values : List ℤ) (w h from r c : ℕ)
    → ((s q : ℕ) → s < h → q < w → cell values w s q ≡ pos (grid (s + 1) (from + q + 1)))
    → 0 < c → c + 1 < w → 0 < r → r + 1 < h
    → mean_at values w r c ≡ weighted (grid (r + 1) (from + c + 1)) (grid (r + 1) (from + c + 1 - 1)) (grid (r + 1) (from + c + 1 + 1)) (grid (r + 1 - 1) (from + c + 1)) (grid (r + 1 + 1) (from + c + 1))
mean_is grid values w h from r c same p q s t =
    let here : size_at values w r c ≡ grid (r + 1) (from + c + 1) = ap unsigned_abs (same r c (omega arith) (omega arith)) in
    let west : size_at values w r (c - 1) ≡ grid (r + 1) (from + c + 1 - 1) =
    let e : from + (c - 1) + 1 ≡ from + c + 1 - 1 = omega arith in ap unsigned_abs (same r (c - 1) (omega arith) (omega arith)) ∙ ap (grid (r + 1)) e in
    let east : size_at values w r (c + 1) ≡ grid (r + 1) (from + c + 1 + 1) =
    let e : from + (c + 1) + 1 ≡ from + c + 1 + 1 = omega arith in ap unsigned_abs (same r (c + 1) (omega arith) q) ∙ ap (grid (r + 1)) e in
    let south : size_at values w (r - 1) c ≡ grid (r + 1 - 1) (from + c + 1) =
    let e : (r - 1) + 1 ≡ r + 1 - 1 = omega arith in ap unsigned_abs (same (r - 1) c (omega arith) (omega arith)) ∙ ap (λ j. grid j (from + c + 1)) e in
    let north : size_at values w (r + 1) c ≡ grid (r + 1 + 1) (from + c + 1) = ap unsigned_abs (same (r + 1) c t (omega arith)) in
    cc

-- where it is tested: an own cell is not at the memory's border exactly where it is not at the domain's edge
pub own_within : (nx ny first end r c : ℕ) (patch : Patch) → IsBlock nx first end patch → patch.west ≤ c → c < patch.west + patch.own
    → is_inner nx ny (r + 1) (patch.from + c + 1) ≡ is_within patch.width ny r c
own_within nx ny first end r c patch b p q =
    let from = b.from in
    let west = b.west in
    let own = b.own in
    let width = b.width in
    let some = b.some in
    let within = b.within in
    grind (arith, nat_tests)

-- what all columns hold is small
pub small_held : (nx ny n : ℕ) (patch : Patch) → Hold (demo_value nx ny n) ny patch 0 patch.width → AreSmall patch.values.items patch.width ny
small_held nx ny n patch held r c p q = subst (λ (z : ℤ). unsigned_abs z < 100) (sym (held r c p (omega arith) q)) (value_small nx ny n (r + 1) (patch.from + c + 1))

-- an own column is in the memory
pub own_in_width : (nx first end c : ℕ) (patch : Patch) → IsBlock nx first end patch → c < patch.west + patch.own → c < patch.width
own_in_width nx first end c patch b p = omega (arith, b.from, b.west, b.own, b.width, b.within)

-- so is the column before them
pub west_in_width : (nx first end c : ℕ) (patch : Patch) → IsBlock nx first end patch → c < patch.west → c < patch.width
west_in_width nx first end c patch b p = omega (arith, b.from, b.west, b.own, b.width, b.within)

next_out : (values : List ℤ) (w h r c : ℕ) → is_within w h r c ≡ false → next_at values w h r c ≡ cell values w r c
next_out values w h r c e = rw e refl

-- an own cell after a step
stepped_own : (b : Bool) (nx ny n first end r c : ℕ) (patch : Patch) → is_within patch.width ny r c ≡ b → IsBlock nx first end patch → Hold (demo_value nx ny n) ny patch 0 patch.width
    → r < ny → patch.west ≤ c → c < patch.west + patch.own
    → next_at patch.values.items patch.width ny r c ≡ pos (demo_value nx ny (n + 1) (r + 1) (patch.from + c + 1))
stepped_own true nx ny n first end r c patch e block held hr low high =
    let inner : is_inner nx ny (r + 1) (patch.from + c + 1) ≡ true = own_within nx ny first end r c patch block low high ∙ e in
    let t = within_facts patch.width ny r c e in
    next_inside patch.values.items patch.width ny r c t.0 t.1 t.2 t.3
    ∙ ap pos (mean_is (demo_value nx ny n) patch.values.items patch.width ny patch.from r c (λ s q hs hq. held s q hs (omega arith) hq) t.0 t.1 t.2 t.3 ∙ sym (value_inner nx ny n (r + 1) (patch.from + c + 1) inner))
stepped_own false nx ny n first end r c patch e block held hr low high =
    let edge : is_inner nx ny (r + 1) (patch.from + c + 1) ≡ false = own_within nx ny first end r c patch block low high ∙ e in
    let in_width : c < patch.width = own_in_width nx first end c patch block high in
    next_out patch.values.items patch.width ny r c e ∙ held r c hr (omega arith) in_width ∙ ap pos (sym (value_edge nx ny n (r + 1) (patch.from + c + 1) edge))

-- the memory after a step: the own columns are one step further, and those beside them are not
pub stepped : (nx ny n first end : ℕ) (old new : Patch) → IsBlock nx first end old → Hold (demo_value nx ny n) ny old 0 old.width → KeepsShape old new
    → ((r c : ℕ) → r < ny → c < old.width → cell new.values.items old.width r c ≡ next_at old.values.items old.width ny r c)
    → Holds ny (demo_value nx ny (n + 1)) (demo_value nx ny n) (demo_value nx ny n) new
stepped nx ny n first end old new block held shape cells = record {
  inside = λ r c hr low high.
      let low' : old.west ≤ c = omega (arith, shape.west, low) in
      let high' : c < old.west + old.own = omega (arith, shape.west, shape.own, high) in
      at_new old new shape r c (demo_value nx ny (n + 1)) (cells r c hr (own_in_width nx first end c old block high') ∙ stepped_own (is_within old.width ny r c) nx ny n first end r c old refl block held hr low' high');
  before = λ r c hr low high.
      let high' : c < old.west = omega (arith, shape.west, high) in
      let in_width : c < old.width = west_in_width nx first end c old block high' in
      at_new old new shape r c (demo_value nx ny n) (cells r c hr in_width ∙ next_border old.values.items old.width ny r c (λ p _ _ _. omega (arith, block.from, block.west)) ∙ held r c hr (omega arith) in_width);
  behind = λ r c hr low high.
      let low' : old.west + old.own ≤ c = omega (arith, shape.west, shape.own, low) in
      let in_width : c < old.width = omega (arith, shape.width, high) in
      at_new old new shape r c (demo_value nx ny n) (cells r c hr in_width ∙ next_border old.values.items old.width ny r c (λ _ p _ _. omega (arith, block.from, block.west, block.own, block.width)) ∙ held r c hr (omega arith) in_width);
}
