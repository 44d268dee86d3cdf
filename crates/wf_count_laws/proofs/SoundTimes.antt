-- A plan that was accepted has its domains in time.
use Rattle.std.proofs.Common.{◌≡◌, ℕ, ◌%◌, ◌≤◌, Bool, true, false, ℤ, pos, negsuc, ap, arith}
use Rattle.std.proofs.lemmas.Int.{ints}
use Rattle.std.specs.Prelude.{◌≤ℤ◌, if◌then◌else◌}
use Rattle.std.specs.Int.{int_rem_euclid, int_max}
use Rattle.wf_model.specs.Plans.{domain_of}
use Rattle.wf_model.specs.Script.{not_before}
use Rattle.wf_model.specs.Weights.{parent_seconds}
use Rattle.wf_count_laws.specs.Weights.{TestedPlansAreInTime, SoundPlansAreInTime}

whole_of : (z : ℤ) (s : ℕ) → 1 ≤ s → int_rem_euclid z (pos s) ≡ pos 0 → not_before z % s ≡ 0
whole_of (pos n) s h e = grind arith
whole_of (negsuc n) s h e = omega (arith, h)

ordered : (b : Bool) (x y : ℤ) → (if b then int_max (pos 0) x else x) ≤ℤ (if b then int_max (pos 0) y else y) → not_before x ≤ not_before y
ordered true (pos m) (pos n) h = grind (arith, ints)
ordered true (pos m) (negsuc n) h = grind (arith, ints)
ordered true (negsuc m) y h = omega arith
ordered false (pos m) (pos n) h = grind (arith, ints)
ordered false (pos m) (negsuc n) h = grind (arith, ints)
ordered false (negsuc m) y h = omega arith

pub tested : TestedPlansAreInTime
tested plan some first steps nests timed = record {
  some = some;
  first = ap not_before first.begins;
  steps = steps;
  nests = λ c nest is.
      let s = nests c nest is in
      let t = timed c nest is in
      record {
        parent = s.parent;
        before = s.before;
        seconds = s.seconds;
        whole = whole_of (domain_of plan c).begins (parent_seconds plan c) (steps (domain_of plan c).parent s.parent) t.whole;
        after_parent = ordered plan.restart (domain_of plan (domain_of plan c).parent).begins (domain_of plan c).begins t.after_parent;
      };
}

pub in_time : SoundPlansAreInTime
in_time plan sound ranged = tested plan sound.some ranged.first sound.steps sound.nests ranged.nests
