-- All patches of a domain: what they hold after an exchange and a step.
use Rattle.std.proofs.Common.{◌≡◌, ◌≢◌, ℕ, ◌+◌, ◌-◌, ◌<◌, ◌≤◌, List, ◌++◌, length, take, drop, get_or, ℤ, sym, ap, ◌∙◌, subst, arith, inl, inr, Vec, Global}
use Rattle.std.proofs.lemmas.Bool.{cases_eq}
use Rattle.std.proofs.Math.Seq.{take-append_seam}
use Rattle.wf_model.specs.Demo.{demo_value}
use Rattle.wf_top.specs.declared.patch.Patch.{Patch}
use Rattle.wf_top.specs.declared.patches.Patches.{Patches}
use Rattle.wf_top.specs.Memories.{Holds, Each, IsPatch, KeepsShape, block_start}
use Rattle.wf_top.specs.Domains.{IsDomain, SameSize, AllHold, HoldSteps, HoldGrid}
use Rattle.wf_top.proofs.PatchLaws.{patch_kept, block_first, block_last, block_after, block_some, block_within}

-- what was lent comes back
pub given_back : {X : Type 0} (n : ℕ) (old new : List X) → n ≡ length new → take n (new ++ drop (length new) old) ≡ new
given_back n old new e = ap (λ k. take k (new ++ drop (length new) old)) e ∙ take-append_seam new (drop (length new) old)

-- the same points with other buffers
pub domain_with : (old : Patches) (v : Vec Patch Global) (w : Vec ℤ Global) → IsDomain old → length v.items ≡ length old.patches.items → length w.items ≡ old.ny
    → Each (IsPatch old.nx old.ny (length old.patches.items)) v.items → IsDomain (record { nx = old.nx; ny = old.ny; patches = v; column = w })
domain_with old v w d count column each = record {
  some = omega (arith, d.some);
  most = omega (arith, d.most);
  columns = d.columns;
  row = d.row;
  rows = d.rows;
  each = subst (λ n. Each (IsPatch old.nx old.ny n) v.items) (sym count) each;
  column = column;
}

-- patches of which one changed and kept its shape
pub each_kept : (nx ny px target : ℕ) (before after : List Patch) → length after ≡ length before → target < length before
    → ((q : ℕ) (other : Patch) → q ≢ target → get_or after q other ≡ get_or before q other)
    → ((other : Patch) → KeepsShape (get_or before target other) (get_or after target other))
    → Each (IsPatch nx ny px) before → Each (IsPatch nx ny px) after
each_kept nx ny px target before after size within others shape each q h other =
    let in_before : q < length before = omega arith in
    elim (cases_eq q target) [
      | inl e ↦ subst (λ k. IsPatch nx ny px k (get_or after k other)) (sym e) (patch_kept nx ny px target (get_or before target other) (get_or after target other) (each target within other) (shape other))
      | inr ne ↦ subst (IsPatch nx ny px q) (sym (others q other ne)) (each q in_before other)
    ]

-- the first patch has no column before its own
pub holds_first : (nx ny px : ℕ) (own west east : ℕ → ℕ → ℕ) (patch : Patch) → IsPatch nx ny px 0 patch → Holds ny own west east patch → Holds ny own own east patch
holds_first nx ny px own west east patch is h = record {
  inside = h.inside;
  before = λ r c hr low high. absurd (omega (arith, is.block.from, is.block.west, block_first nx px, high));
  behind = h.behind;
}

-- the last patch has no column behind its own
pub holds_last : (nx ny px p : ℕ) (own west east : ℕ → ℕ → ℕ) (patch : Patch) → 0 < px → p + 1 ≡ px → IsPatch nx ny px p patch → Holds ny own west east patch → Holds ny own west own patch
holds_last nx ny px p own west east patch some last is h =
    let end : block_start nx px (p + 1) ≡ nx = ap (block_start nx px) last ∙ block_last nx px some in
    record {
      inside = h.inside;
      before = h.before;
      behind = λ r c hr low high. absurd (omega (arith, is.block.from, is.block.west, is.block.own, is.block.width, end, low, high));
    }

-- what the patches up to p hold, and that the others are as at the start
pub record UpTo (p : ℕ) (own west east : ℕ → ℕ → ℕ) (start all : Patches) : Type 0 where
  pub done : (q : ℕ) (other : Patch) → q < p → Holds all.ny own west east (get_or all.patches.items q other)
  pub rest : (q : ℕ) (other : Patch) → p ≤ q → get_or all.patches.items q other ≡ get_or start.patches.items q other

-- one patch more
pub up_to_more : (p : ℕ) (own west east : ℕ → ℕ → ℕ) (start old new : Patches) → SameSize old new
    → ((q : ℕ) (other : Patch) → q ≢ p → get_or new.patches.items q other ≡ get_or old.patches.items q other)
    → ((other : Patch) → Holds old.ny own west east (get_or new.patches.items p other))
    → UpTo p own west east start old → UpTo (p + 1) own west east start new
up_to_more p own west east start old new size others here u = record {
  done = λ q other h.
      subst (λ n. Holds n own west east (get_or new.patches.items q other)) (sym size.ny)
      (elim (cases_eq q p) [
        | inl e ↦ subst (λ k. Holds old.ny own west east (get_or new.patches.items k other)) (sym e) (here other)
        | inr ne ↦ subst (Holds old.ny own west east) (sym (others q other ne)) (u.done q other (omega arith))
      ]);
  rest = λ q other h. others q other (λ e. omega arith) ∙ u.rest q other (omega arith);
}

-- what a patch behind them held at the start
pub at_start : (p q : ℕ) (own west east mine before behind : ℕ → ℕ → ℕ) (start old : Patches) → SameSize start old → UpTo p mine before behind start old → AllHold own west east start → p ≤ q → q < length start.patches.items
    → (other : Patch) → Holds old.ny own west east (get_or old.patches.items q other)
at_start p q own west east mine before behind start old size u all h within other =
    subst (λ n. Holds n own west east (get_or old.patches.items q other)) (sym size.ny) (subst (Holds start.ny own west east) (sym (u.rest q other h)) (all q within other))

-- one change after another
pub size_then : (a b c : Patches) → SameSize a b → SameSize b c → SameSize a c
size_then a b c p q = record { nx = q.nx ∙ p.nx; ny = q.ny ∙ p.ny; count = q.count ∙ p.count }

-- the last own column of a patch is the one before the next patch's own
pub last_column : (nx ny px p : ℕ) (neighbour patch : Patch) → 0 < p → 0 < px → px ≤ nx → IsPatch nx ny px (p - 1) neighbour → IsPatch nx ny px p patch
    → neighbour.from + (neighbour.west + neighbour.own - 1) + 1 ≡ patch.from + 0 + 1
last_column nx ny px p neighbour patch after some most n is =
    let e : (p - 1) + 1 ≡ p = omega arith in
    let end : block_start nx px ((p - 1) + 1) ≡ block_start nx px p = ap (block_start nx px) e in
    omega (arith, end, n.block.from, n.block.west, n.block.own, n.block.some, is.block.from, is.block.west, block_after nx px p some most after)

-- the first own column of a patch is the one behind the patch before it
pub first_column : (nx ny px p : ℕ) (neighbour patch : Patch) → IsPatch nx ny px (p + 1) neighbour → IsPatch nx ny px p patch
    → neighbour.from + neighbour.west + 1 ≡ patch.from + (patch.west + patch.own) + 1
first_column nx ny px p neighbour patch n is = omega (arith, n.block.west, is.block.west, is.block.own)

-- a patch that is not the last ends before the last column
pub end_before : (nx px p : ℕ) → 0 < px → px ≤ nx → p + 1 < px → block_start nx px (p + 1) < nx
end_before nx px p some most h = omega (arith, block_some nx px (p + 1) some most, block_within nx px (p + 1 + 1) some (omega arith))

-- the grid of as many points
pub steps_along : (old new : Patches) (n m : ℕ) → SameSize old new → (patch : Patch) → Holds new.ny (demo_value old.nx old.ny n) (demo_value old.nx old.ny m) (demo_value old.nx old.ny m) patch → HoldSteps new n m patch
steps_along old new n m size patch h =
    subst (λ x. Holds new.ny (demo_value x new.ny n) (demo_value x new.ny m) (demo_value x new.ny m) patch) (sym size.nx)
    (subst (λ y. Holds new.ny (demo_value old.nx y n) (demo_value old.nx y m) (demo_value old.nx y m) patch) (sym size.ny) h)

pub steps_back : (old new : Patches) (n m : ℕ) → SameSize old new → (patch : Patch) → HoldSteps new n m patch → Holds new.ny (demo_value old.nx old.ny n) (demo_value old.nx old.ny m) (demo_value old.nx old.ny m) patch
steps_back old new n m size patch h =
    subst (λ x. Holds new.ny (demo_value x old.ny n) (demo_value x old.ny m) (demo_value x old.ny m) patch) size.nx
    (subst (λ y. Holds new.ny (demo_value new.nx y n) (demo_value new.nx y m) (demo_value new.nx y m) patch) size.ny h)

pub grid_along : (old new : Patches) (n m : ℕ) → SameSize old new → AllHold (demo_value old.nx old.ny n) (demo_value old.nx old.ny m) (demo_value old.nx old.ny m) new → HoldGrid n m new
grid_along old new n m size h p hp other = steps_along old new n m size (get_or new.patches.items p other) (h p hp other)
