-- Each place lies in one block, and each point has one owner.
use Rattle.std.proofs.Common.{◌≡◌, ◌⊎◌, ⊎_elim, ℕ, ◌+◌, ◌-◌, ◌*◌, ◌/◌, ◌%◌, ◌≤◌, ◌<◌, true, sym, ◌∙◌, arith}
use Rattle.std.proofs.Math.Nat.{mod-add-div'}
use Rattle.std.proofs.lemmas.Int.{ints}
use Rattle.std.specs.Prelude.{ℤ, pos, ◌≤ℤ◌, ◌<ℤ◌, ◌==◌, if◌then◌else◌}
use Rattle.wf_model.specs.declared.plan.Plan.{Plan}
use Rattle.wf_model.specs.Plans.{domain_of, nx, ny}
use Rattle.wf_model.specs.Patches.{Split, split_of, in_span, block, own_box, is_own}
use Rattle.wf_laws.specs.Ownership.{BlocksAreDisjointAndComplete, EachPointHasOneOwner, OwnCellsArePoints}
use Rattle.wf_laws.proofs.Bools.{split_bool, equal_of, and_left, and_right}
use Rattle.wf_laws.proofs.Blocks.{blocks_rise}
use Rattle.wf_laws.proofs.Spans.{span-low, span-high, owner_span, none_if}
use Rattle.wf_laws.proofs.Places.{IsRoom, room_of, patch_x, patch_y, own-domain, owner_owns}
use Rattle.wf_laws.proofs.Reach.{own_memory}

-- numbers are less, greater or equal
three : (a b : ℕ) → (a < b) ⊎ ((b < a) ⊎ (a ≡ b))
three a b = grind arith

-- a later block begins past the end of an earlier one
no_two : (p q n len more : ℕ) (c : ℤ) → 0 < n → p < q → q < n → in_span (block p n len more) c ≡ true → in_span (block q n len more) c ≡ true → ⊥
no_two p q n len more c hn h hq a b =
    let none : (if p + 1 == n then more else 0) ≡ 0 = none_if (p + 1 == n) more (⊎_elim (λ t. absurd (at_end p q n h hq (equal_of (p + 1) n t))) (λ t. t) (split_bool (p + 1 == n))) in
    let u : c <ℤ pos ((p + 1) * len / n + 1 + (if p + 1 == n then more else 0)) = span-high (block p n len more) c a in
    let l : pos (q * len / n + 1) ≤ℤ c = span-low (block q n len more) c b in
    apart ((p + 1) * len / n) (q * len / n) (if p + 1 == n then more else 0) c none (blocks_rise n len p q hn h) u l
  where
    at_end : (p q n : ℕ) → p < q → q < n → p + 1 ≡ n → ⊥
    at_end p q n a b e = omega arith

    apart : (x y m : ℕ) (c : ℤ) → m ≡ 0 → x ≤ y → c <ℤ pos (x + 1 + m) → pos (y + 1) ≤ℤ c → ⊥
    apart x y m c e r u l = omega (arith, ints)

-- two blocks that hold one place are one
pub same_block : (p q n len more : ℕ) (c : ℤ) → 0 < n → p < n → q < n → in_span (block p n len more) c ≡ true → in_span (block q n len more) c ≡ true → p ≡ q
same_block p q n len more c hn hp hq a b =
    ⊎_elim (λ h. absurd (no_two p q n len more c hn h hq a b)) (λ h. ⊎_elim (λ k. absurd (no_two q p n len more c hn k hp b a)) (λ e. e) h) (three p q)

module _ (plan : Plan) (split : Split) (d : ℕ) (room : IsRoom plan split d) where
  -- two patches that own one point are one
  pub one_owner : (p q f : ℕ) (j i : ℤ) → p < split.in_x * split.in_y → q < split.in_x * split.in_y → is_own plan split d p f j i ≡ true → is_own plan split d q f j i ≡ true → p ≡ q
  unfolding is_own own_box
  one_owner p q f j i hp hq a b =
      let lx : ℕ = (domain_of plan d).ide - 1 in
      let ly : ℕ = (domain_of plan d).jde - 1 in
      let y : p / split.in_x ≡ q / split.in_x =
      same_block (p / split.in_x) (q / split.in_x) split.in_y ly (ny plan d f - ly) j room.some_y (patch_y plan split d room p hp) (patch_y plan split d room q hq) (and_left _ _ a) (and_left _ _ b) in
      let x : p % split.in_x ≡ q % split.in_x =
      same_block (p % split.in_x) (q % split.in_x) split.in_x lx (nx plan d f - lx) i room.some_x (patch_x plan split d room p) (patch_x plan split d room q) (and_right _ _ a) (and_right _ _ b) in
      sym (mod-add-div' p split.in_x) ∙ (λ n. x n + y n * split.in_x) ∙ mod-add-div' q split.in_x

-- each place lies in one block
pub disjoint_complete : BlocksAreDisjointAndComplete
disjoint_complete n len more c hn hl low high =
    let r = owner_span n len more c hn hl low high in
    (r.0, record { below = r.1; passes = r.2; alone = λ q hq t. same_block q r.0 n len more (pos c) hn hq r.1 t r.2 })

-- each point has one owner
pub each_owner : EachPointHasOneOwner
each_owner plan layout d f j i laid is hj hi =
    let room = room_of plan layout laid d is in
    let o = owner_owns plan (split_of layout) d room f j i hj.0 hj.1 hi.0 hi.1 in
    record { below = o.0; passes = o.1; alone = λ q hq t. one_owner plan (split_of layout) d room q _ f (pos j) (pos i) hq o.0 t o.1 }

-- own cells are points, and memory cells
pub own_points : OwnCellsArePoints
own_points plan layout d p c laid is hp own =
    let room = room_of plan layout laid d is in (
      own-domain plan (split_of layout) d room p c.field c.j c.i hp own.own,
      record { level = own.level; within = own_memory plan (split_of layout) d room p c.field c.j c.i hp own.own },
    )
