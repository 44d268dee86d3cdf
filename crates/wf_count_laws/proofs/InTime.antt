-- The test of whether a plan's domains are in time.
use Rattle.std.proofs.Common.{◌≡◌, ℕ, ◌-◌, ◌*◌, ◌%◌, ◌<◌, ◌≤◌, Bool, true, length, arith}
use Rattle.std.specs.Prelude.{◌==◌, ◌&&◌, nat_lt, nat_le}
use Rattle.std.specs.List.{range_with_len, list_all}
use Rattle.wf_model.specs.declared.plan.Plan.{Plan}
use Rattle.wf_model.specs.Plans.{domain_of, domains_of}
use Rattle.wf_laws.proofs.Bools.{and_left, and_right, and_both, equal_of, equal_test, less_of, less_test, most_of, most_test}
use Rattle.wf_laws.proofs.Members.{In-range, In-range_out, In-list_all, list_all-In}
use Rattle.wf_model.specs.Weights.{begins_at, parent_seconds, IsNestInTime, HasDomainsInTime}
use Rattle.wf_count_laws.specs.InTime.{is_in_time, are_in_time, DomainsInTimePassTheTest}

module _ (plan : Plan) where
  abbrev seconds_test : ℕ → Bool
  seconds_test d = nat_le 1 (domain_of plan d).seconds

  -- the four parts of the test of a nest
  nest_of : (c : ℕ) → c ≤ length plan.domains → is_in_time plan c ≡ true → IsNestInTime plan c
  nest_of c within h =
      let places = and_left (nat_le 1 (domain_of plan c).parent && nat_lt (domain_of plan c).parent c) _ h in
      let times = and_right (nat_le 1 (domain_of plan c).parent && nat_lt (domain_of plan c).parent c) _ h in
      let starts = and_right ((domain_of plan c).seconds * (domain_of plan c).time_ratio == parent_seconds plan c) _ times in
      let low : 1 ≤ (domain_of plan c).parent = most_of 1 (domain_of plan c).parent (and_left (nat_le 1 (domain_of plan c).parent) _ places) in
      let before : (domain_of plan c).parent < c = less_of (domain_of plan c).parent c (and_right (nat_le 1 (domain_of plan c).parent) _ places) in
      record {
        parent = (low, omega (arith, before, within));
        before = before;
        seconds = equal_of _ _ (and_left ((domain_of plan c).seconds * (domain_of plan c).time_ratio == parent_seconds plan c) _ times);
        whole = equal_of _ _ (and_left (begins_at plan c % parent_seconds plan c == 0) _ starts);
        after_parent = most_of _ _ (and_right (begins_at plan c % parent_seconds plan c == 0) _ starts);
      }

  nest_test : (c : ℕ) → IsNestInTime plan c → is_in_time plan c ≡ true
  nest_test c t =
      and_both _ _ (and_both _ _ (most_test 1 (domain_of plan c).parent t.parent.0) (less_test (domain_of plan c).parent c t.before))
      (and_both _ _ (equal_test _ _ t.seconds) (and_both _ _ (equal_test _ _ t.whole) (most_test (begins_at plan (domain_of plan c).parent) (begins_at plan c) t.after_parent)))

  passed : are_in_time plan ≡ true → HasDomainsInTime plan
  passed h =
      let first = and_left (nat_le 1 (length plan.domains) && (begins_at plan 1 == 0)) _ h in
      let all = and_right (nat_le 1 (length plan.domains) && (begins_at plan 1 == 0)) _ h in
      record {
        some = most_of 1 (length plan.domains) (and_left (nat_le 1 (length plan.domains)) _ first);
        first = equal_of _ _ (and_right (nat_le 1 (length plan.domains)) _ first);
        steps = λ d is. most_of 1 (domain_of plan d).seconds (In-list_all seconds_test d (domains_of plan) (and_left (list_all seconds_test (domains_of plan)) _ all) (In-range d 1 (length plan.domains) is.0 (omega (arith, is.1))));
        nests = λ c nest is. nest_of c is.1 (In-list_all (is_in_time plan) c (range_with_len 2 (length plan.domains - 1)) (and_right (list_all seconds_test (domains_of plan)) _ all) (In-range c 2 (length plan.domains - 1) (omega (arith, nest)) (omega (arith, nest, is.1))));
      }

  passes : HasDomainsInTime plan → are_in_time plan ≡ true
  passes t =
      and_both _ _ (and_both _ _ (most_test 1 (length plan.domains) t.some) (equal_test _ _ t.first))
      (and_both _ _
      (list_all-In seconds_test (domains_of plan) (λ d i. let l = In-range_out d 1 (length plan.domains) i in most_test 1 (domain_of plan d).seconds (t.steps d (l.0, omega (arith, l.1)))))
      (list_all-In (is_in_time plan) (range_with_len 2 (length plan.domains - 1)) (λ c i. let l = In-range_out c 2 (length plan.domains - 1) i in nest_test c (t.nests c (omega (arith, l.0)) (omega (arith, l.0), omega (arith, l.1, t.some))))))

pub tested : DomainsInTimePassTheTest
tested plan = (passed plan, passes plan)
