-- Each domain starts by the last second of year 9999.
use Rattle.std.proofs.Common.{◌≡◌, ℕ, ◌+◌, ◌<◌, ◌≤◌, Bool, true, false, not, List, None, ℤ, pos, negsuc, refl, sym, ap, subst, ◌∙◌, arith, codes}
use Rattle.std.specs.Prelude.{◌-ℤ◌}
use Rattle.std.proofs.lemmas.Int.{ints}
use Rattle.wf_model.specs.declared.config.Config.{Config}
use Rattle.wf_model.specs.declared.plan.Domain.{Domain}
use Rattle.wf_model.specs.declared.plan.Plan.{Plan}
use Rattle.wf_model.specs.declared.plan.Item.{Item}
use Rattle.wf_model.specs.declared.table.HookName.{HookName}
use Rattle.wf_model.specs.Calendar.{moment_of}
use Rattle.wf_model.specs.Dates.{is_date, seconds_before, last_moment}
use Rattle.wf_model.specs.Plans.{domain_of}
use Rattle.wf_model.specs.PlanDomains.{amount, start_moment}
use Rattle.wf_model.specs.PlanOf.{plan_from}
use Rattle.wf_model.specs.PlanTests.{domain_faults}
use Rattle.wf_model.specs.Reading.{first_fault}
use Rattle.wf_model.specs.Script.{not_before}
use Rattle.wf_model.specs.Sound.{IsDomain}
use Rattle.wf_config_laws.specs.RangedValues.{HasRangedValues}
use Rattle.wf_plan_laws.specs.StartTimes.{DomainsStartInTime}
use Rattle.wf_config_laws.proofs.Passed.{passed_if}
use Rattle.wf_config_laws.proofs.Domains.{domain_is, count_is, start_is}
use Rattle.wf_config_laws.proofs.Tests.{DomainsPass, domains_pass}
use Rattle.wf_config_laws.proofs.Times.{read_back, within_day}
use Rattle.wf_plan_laws.proofs.DayCounts.{moment_within}

holds : (b : Bool) → not b ≡ false → b ≡ true
holds true e = refl
holds false e = cc

-- from one moment on to another, if that comes after it
later_of : (a b last : ℕ) (z : ℤ) → z ≡ pos b -ℤ pos a → a ≤ last → b ≤ last → a + not_before z ≤ last
later_of a b last (pos n) e low high = omega (arith, ints, e, low, high)
later_of a b last (negsuc n) e low high = omega (arith, low)

module _ (config : Config) (hooks : List HookName) (items : List Item) (values : HasRangedValues config) (passes : DomainsPass config (plan_from config hooks items)) where
  abbrev plan : Plan
  plan = plan_from config hooks items

  -- the seconds before a domain's start
  before_start : ℕ → ℕ
  before_start d = seconds_before (start_moment config d)

  dated : (d : ℕ) → IsDomain plan d → is_date (start_moment config d).date ≡ true
  dated d is = holds (is_date (start_moment config d).date) (passed_if _ _ (passes.dates d is.0 is.1))

  in_day : (d : ℕ) → IsDomain plan d → (start_moment config d).second < 86400
  in_day d is =
      let v = values.domains d is.0 (omega (arith, is.1, count_is config hooks items)) in
      within_day (amount config (codes "start_hour") d) (amount config (codes "start_minute") d) (amount config (codes "start_second") d) v.start_hour.within.1 v.start_minute.within.1 v.start_second.within.1

  within : (d : ℕ) → IsDomain plan d → before_start d ≤ seconds_before last_moment
  unfolding before_start
  within d is = moment_within (start_moment config d) (dated d is) (in_day d is)

  first : IsDomain plan 1
  first = (omega arith, omega (arith, count_is config hooks items, values.own.max_dom.within.0))

  plan_start : seconds_before (moment_of plan.start) ≡ before_start 1
  unfolding before_start
  plan_start = ap seconds_before (ap moment_of (start_is config hooks items) ∙ read_back (start_moment config 1) (dated 1 first) (in_day 1 first))

  begins : (d : ℕ) → IsDomain plan d → (domain_of plan d).begins ≡ pos (before_start d) -ℤ pos (before_start 1)
  unfolding before_start
  begins d is = ap (λ (x : Domain). x.begins) (domain_is config hooks items d is.0 (omega (arith, is.1, count_is config hooks items)))

  starts : (d : ℕ) → IsDomain plan d → seconds_before (moment_of plan.start) + not_before (domain_of plan d).begins ≤ seconds_before last_moment
  starts d is =
      subst (λ (n : ℕ). n + not_before (domain_of plan d).begins ≤ seconds_before last_moment) (sym plan_start)
      (later_of (before_start 1) (before_start d) (seconds_before last_moment) (domain_of plan d).begins (begins d is) (within 1 first) (within d is))

pub domains_start_in_time : DomainsStartInTime
domains_start_in_time config hooks items p values from passes =
    subst (λ (q : Plan). first_fault (domain_faults config q) ≡ None → (d : ℕ) → IsDomain q d → seconds_before (moment_of q.start) + not_before (domain_of q d).begins ≤ seconds_before last_moment)
    from
    (λ none d is. starts config hooks items values (domains_pass config (plan_from config hooks items) none) d is)
    passes
