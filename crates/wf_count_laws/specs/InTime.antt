-- A test of whether a plan's domains are in time.
use Rattle.std.specs.Prelude.{◌≡◌, ℕ, ◌-◌, ◌*◌, ◌%◌, ◌==◌, Bool, true, ◌&&◌, nat_lt, nat_le, length}
use Rattle.std.specs.List.{range_with_len, list_all}
use Rattle.wf_model.specs.declared.plan.Plan.{Plan}
use Rattle.wf_model.specs.Plans.{domain_of, domains_of}
use Rattle.wf_model.specs.Weights.{begins_at, parent_seconds, HasDomainsInTime}

-- of a nest
abbrev pub is_in_time : Plan → ℕ → Bool
is_in_time plan c =
    (nat_le 1 (domain_of plan c).parent && nat_lt (domain_of plan c).parent c)
    && (((domain_of plan c).seconds * (domain_of plan c).time_ratio == parent_seconds plan c)
    && ((begins_at plan c % parent_seconds plan c == 0)
    && nat_le (begins_at plan (domain_of plan c).parent) (begins_at plan c)))

-- of all domains
abbrev pub are_in_time : Plan → Bool
are_in_time plan =
    (nat_le 1 (length plan.domains) && (begins_at plan 1 == 0))
    && (list_all (λ d. nat_le 1 (domain_of plan d).seconds) (domains_of plan)
    && list_all (is_in_time plan) (range_with_len 2 (length plan.domains - 1)))

-- it passes exactly where they are
abbrev pub DomainsInTimePassTheTest : Type 0
DomainsInTimePassTheTest =
    (plan : Plan) →
    (are_in_time plan ≡ true → HasDomainsInTime plan)
    × (HasDomainsInTime plan → are_in_time plan ≡ true)
