-- The laws of overflow: what patches name overflows, the owner of the least point names it, and the least that is named is the outcome's.
use Rattle.std.proofs.Common.{◌≡◌, ℕ, ◌*◌, ◌≤◌, ◌<◌, Bool, true, length, get_or, refl, sym, ap, subst, ◌∙◌, arith, Option, Some, None}
use Rattle.std.proofs.Math.Nat.{mul-le-mul_right}
use Rattle.std.specs.Prelude.{pos, ◌==◌, ◌&&◌, find, option_map}
use Rattle.std.specs.List.{list_any}
use Rattle.wf_model.specs.declared.layout.Layout.{Layout}
use Rattle.wf_model.specs.declared.script.Entry.{Entry}
use Rattle.wf_model.specs.Changes.{Spot, spots, overflows_at, overflow_in}
use Rattle.wf_model.specs.Outcome.{RunData, script, no_entry, entry_at, grids_at, change_of, point_of, overflow_of}
use Rattle.wf_model.specs.Patches.{Split, split_of, owner_of, is_own, patches_of}
use Rattle.wf_model.specs.Exchange.{receiver_of}
use Rattle.wf_model.specs.PatchEffect.{Memory}
use Rattle.wf_model.specs.Sound.{IsDomain}
use Rattle.wf_model.specs.Marks.{all_fresh, marks_after}
use Rattle.wf_model.specs.Agreement.{IsAccepted, IsUpToOverflow, IsPatch, memory_at}
use Rattle.wf_model.specs.LeastStop.{domain_at, same_spot, is_named}
use Rattle.wf_laws.specs.Stops.{named_at, change_at, NamedPointsOverflow, OwnersNameTheLeastPoint, LeastNamedIsTheOverflow, NoPatchNamesAPointBefore, OutcomeIsTheLeastNamed}
use Rattle.wf_laws.proofs.Bools.{equal_of, same_number, and_left, and_right, differ}
use Rattle.wf_laws.proofs.Members.{In, In-range, In-range_out, In-list_any, list_any-In, find-Some, find-None, In-Contains, list_any-none}
use Rattle.wf_laws.proofs.Places.{IsRoom, room_of, owner_owns}
use Rattle.wf_laws.proofs.Right.{AreRight}
use Rattle.wf_laws.proofs.CentralAll.{EachRight}
use Rattle.wf_laws.proofs.ScriptAll.{script-follows_all}
use Rattle.wf_laws.proofs.AllDomains.{rooms, kind_at}
use Rattle.wf_laws.proofs.FirstOverflow.{clean_up_to, none_before, first_is, earlier}
use Rattle.wf_laws.proofs.WholeRun.{right_at, memory_is, turns}
use Rattle.wf_laws.proofs.GoOn.{overflow-none}
use Rattle.wf_laws.proofs.Least.{find-first, spot_level, goes_on, named_over, names_least}
use Rattle.wf_laws.proofs.Names.{Names, silent, names, names_of}

-- points that the test finds the same are equal
same_spot-equal : (x y : Spot) → same_spot x y ≡ true → x ≡ y
same_spot-equal x y h =
    let f : x.field ≡ y.field = equal_of x.field y.field (and_left (x.field == y.field) _ h) in
    let rest = and_right (x.field == y.field) ((x.k == y.k) && ((x.j == y.j) && (x.i == y.i))) h in
    let k : x.k ≡ y.k = equal_of x.k y.k (and_left (x.k == y.k) _ rest) in
    let last = and_right (x.k == y.k) ((x.j == y.j) && (x.i == y.i)) rest in
    let j : x.j ≡ y.j = equal_of x.j y.j (and_left (x.j == y.j) _ last) in
    let i : x.i ≡ y.i = equal_of x.i y.i (and_right (x.j == y.j) (x.i == y.i) last) in
    λ n. record { field = f n; k = k n; j = j n; i = i n }

-- a point is the same as itself
same_spot-same : (x : Spot) → same_spot x x ≡ true
same_spot-same x = λ n. same_number x.field n && (same_number x.k n && (same_number x.j n && same_number x.i n))

-- a point that is named
named-Some : (x : Spot) (o : Option Spot) → is_named x o ≡ true → o ≡ Some x
named-Some x None h = absurd (differ (sym h))
named-Some x (Some y) h = ap Some (sym (same_spot-equal x y h))

-- none is not some
none_named : {X : Type 0} {o : Option X} {x : X} → o ≡ None → o ≡ Some x → ⊥
none_named p q = cc

module _ (r : RunData) (layout : Layout) (a : IsAccepted r layout) (n : ℕ) (up : IsUpToOverflow r n) (within : n < length (script r)) where
  -- how the domains are cut
  abbrev split : Split
  split = split_of layout

  -- the entry at the place
  abbrev here : Entry
  here = get_or (script r) n no_entry

  -- the fresh cells of all patches hold the grids' numbers in the lockstep run
  pub each_now : EachRight r (split_of layout) a.sound a.covered (rooms r layout a.sound a.laid a.covered) (turns r layout a.sound a.laid a.covered n) (grids_at r n) (memory_at r layout n)
  each_now = record {
    all = λ d is. record {
      right = λ p hp.
          subst (λ (m : Memory). AreRight r.plan (split_of layout) d p (marks_after r.plan (split_of layout) d p (turns r layout a.sound a.laid a.covered n d) all_fresh) (grids_at r n) m)
          (sym (memory_is r layout a.sound a.laid a.covered d n p is up.within (clean_up_to r n up) hp))
          (((right_at r layout a.sound a.laid a.covered n).all d is).right p hp);
    };
  }

  -- what a patch names at the place
  names_here : (p : ℕ) → IsPatch layout p → Names r (split_of layout) here (grids_at r n) (memory_at r layout n) p here.act
  names_here p hp =
      names_of r (split_of layout) a.sound a.covered (rooms r layout a.sound a.laid a.covered) (turns r layout a.sound a.laid a.covered n) (grids_at r n) (memory_at r layout n) each_now here
      (kind_at r.plan (script-follows_all r.plan a.sound r.initial.begins) n no_entry within) p hp

  -- what it names overflows
  named_overflows : (p : ℕ) (x : Spot) → IsPatch layout p → named_at r layout n p ≡ Some x → In x (spots r.plan (domain_at r n)) × (overflows_at (change_at r n) x ≡ true)
  unfolding entry_at change_of
  named_overflows p x hp h = at (names_here p hp)
    where
      at : Names r (split_of layout) here (grids_at r n) (memory_at r layout n) p here.act → In x (spots r.plan (domain_at r n)) × (overflows_at (change_at r n) x ≡ true)
      at (silent q fine) = absurd (none_named q h)
      at (names s q is agrees) = named_over r.plan (split_of layout) (receiver_of r.plan here here.act) p s (change_at r n) agrees x (sym q ∙ h)

  -- where the entry does not overflow no patch names a point
  none_here : overflow_in r.plan (change_at r n) ≡ None → (p : ℕ) → IsPatch layout p → named_at r layout n p ≡ None
  unfolding entry_at change_of
  none_here fine p hp = at (names_here p hp)
    where
      at : Names r (split_of layout) here (grids_at r n) (memory_at r layout n) p here.act → named_at r layout n p ≡ None
      at (silent q f) = q
      at (names s q is agrees) = q ∙ goes_on r.plan (split_of layout) (receiver_of r.plan here here.act) p s (change_at r n) agrees fine

  -- where it overflows, it does so in a domain of the plan that computes or receives there
  record IsWhere (x : Spot) : Type 0 where
    domain : IsDomain r.plan (domain_at r n)
    first : find (overflows_at (change_at r n)) (spots r.plan (domain_at r n)) ≡ Some x

  -- so at each point that overflows
  is_where : (x : Spot) → overflow_in r.plan (change_at r n) ≡ Some x → IsWhere x
  unfolding entry_at change_of
  is_where x over = at (names_here 0 (some_patch layout.nproc_x layout.nproc_y a.laid.some_x a.laid.some_y))
    where
      some_patch : (x y : ℕ) → 1 ≤ x → 1 ≤ y → 0 < x * y
      some_patch x y hx hy = omega (arith, mul-le-mul_right y hx)

      at : Names r (split_of layout) here (grids_at r n) (memory_at r layout n) 0 here.act → IsWhere x
      at (silent q fine) = absurd (none_named fine over)
      at (names s q is agrees) = record { domain = is; first = subst (λ (d : ℕ). find (overflows_at (change_at r n)) (spots r.plan d) ≡ Some x) agrees.domain over }

  -- the owner of the least point is a patch, and names it
  owner_named : (x : Spot) → overflow_in r.plan (change_at r n) ≡ Some x →
      IsPatch layout (owner_of r.plan (split_of layout) (domain_at r n) x.field x.j x.i) × (named_at r layout n (owner_of r.plan (split_of layout) (domain_at r n) x.field x.j x.i) ≡ Some x)
  unfolding entry_at change_of
  owner_named x over =
      let w = is_where x over in
      let level = spot_level r.plan (domain_at r n) x (find-Some (overflows_at (change_at r n)) x (spots r.plan (domain_at r n)) w.first).0 in
      let room = room_of r.plan layout a.laid (domain_at r n) w.domain in
      let o = owner_owns r.plan (split_of layout) (domain_at r n) room x.field x.j x.i level.in_y.0 level.in_y.1 level.in_x.0 level.in_x.1 in
      (o.0, at room (owner_of r.plan (split_of layout) (domain_at r n) x.field x.j x.i) o.0 o.1 (names_here (owner_of r.plan (split_of layout) (domain_at r n) x.field x.j x.i) o.0))
    where
      at : IsRoom r.plan (split_of layout) (domain_at r n) → (p : ℕ) → IsPatch layout p → is_own r.plan (split_of layout) (domain_at r n) p x.field (pos x.j) (pos x.i) ≡ true →
          Names r (split_of layout) here (grids_at r n) (memory_at r layout n) p here.act → named_at r layout n p ≡ Some x
      at room p hp own (silent q fine) = absurd (none_named fine over)
      at room p hp own (names s q is agrees) = q ∙ names_least r.plan (split_of layout) (domain_at r n) p s (change_at r n) agrees room hp x over own

  -- some patch names the point
  abbrev some_names : Spot → Bool
  some_names x = list_any (λ p. is_named x (named_at r layout n p)) (patches_of (split_of layout))

  -- a patch's number
  patch_below : (p : ℕ) → In p (patches_of (split_of layout)) → IsPatch layout p
  patch_below p h = let b = In-range_out p 0 (layout.nproc_x * layout.nproc_y) h in omega (arith, b.1)

  -- the least point that is named is the overflow
  least_is : (o : Option Spot) → overflow_in r.plan (change_at r n) ≡ o → find some_names (spots r.plan (domain_at r n)) ≡ o
  least_is None fine =
      find-None some_names (spots r.plan (domain_at r n))
      (λ x i. list_any-none (λ p. is_named x (named_at r layout n p)) (patches_of (split_of layout)) (λ p h. ap (is_named x) (none_here fine p (patch_below p h))))
  least_is (Some x) over =
      let owner : ℕ = owner_of r.plan (split_of layout) (domain_at r n) x.field x.j x.i in
      let o = owner_named x over in
      find-first some_names (overflows_at (change_at r n)) x (spots r.plan (domain_at r n))
      (λ y i h. let p = In-list_any (λ p. is_named y (named_at r layout n p)) (patches_of (split_of layout)) h in
      (named_overflows p.0 y (patch_below p.0 p.1) (named-Some y (named_at r layout n p.0) p.2)).1)
      (is_where x over).first
      (list_any-In (λ p. is_named x (named_at r layout n p)) (owner_of r.plan (split_of layout) (domain_at r n) x.field x.j x.i) (patches_of (split_of layout))
      (In-range (owner_of r.plan (split_of layout) (domain_at r n) x.field x.j x.i) 0 (layout.nproc_x * layout.nproc_y) (omega arith) (omega (arith, o.0)))
      (ap (is_named x) o.1 ∙ same_spot-same x))

-- what a patch names overflows
pub named_points : NamedPointsOverflow
named_points r layout n p x a up within hp h =
    let o = named_overflows r layout a n up within p x hp h in (In-Contains x (spots r.plan (domain_at r n)) o.0, o.1)

-- the owner names the least point
pub owners_name : OwnersNameTheLeastPoint
owners_name r layout n x a up within over = (owner_named r layout a n up within x over).1

-- the least that is named is the overflow
pub least_overflow : LeastNamedIsTheOverflow
least_overflow r layout n a up within = least_is r layout a n up within (overflow_in r.plan (change_at r n)) refl

-- no patch names a point before the first overflow
pub none_named_before : NoPatchNamesAPointBefore
none_named_before r layout n m p a up h hp =
    none_here r layout a m (earlier r m n (omega (arith, h)) up) (omega (arith, h, up.within))
    (overflow-none r (entry_at r m) (grids_at r m) (none_before r n m up h)) p hp

-- the outcome is the least that is named
pub outcome_least : OutcomeIsTheLeastNamed
unfolding overflow_of
outcome_least r layout o a p =
    let first = first_is r o p in
    ap (option_map (point_of (change_at r o.place) (entry_at r o.place))) (least_is r layout a o.place first.reached first.within (overflow_in r.plan (change_at r o.place)) refl) ∙ first.point
