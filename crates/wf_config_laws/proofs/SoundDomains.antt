-- Domains whose tests pass are sound and in their ranges.
use Rattle.std.proofs.Common.{◌≡◌, ℕ, zero, suc, ◌+◌, ◌-◌, ◌*◌, ◌/◌, ◌%◌, ◌<◌, ◌≤◌, ◌==◌, Bool, true, false, not, List, length, None, Ok, ⊎_elim, pos, IsTrue, refl, sym, ap, ap₂, subst, ◌∙◌, arith, codes, slice_index_or}
use Rattle.std.specs.List.{All}
use Rattle.std.specs.Int.{int_rem_euclid}
use Rattle.std.proofs.lemmas.Bool.{cases_lt}
use Rattle.std.proofs.lemmas.List.Elements.{All-map, All-weaker, All-from_get_or}
use Rattle.std.proofs.Math.Nat.{div-le_self}
use Rattle.wf_model.specs.declared.registry.Registry.{Registry}
use Rattle.wf_model.specs.declared.namelist.Namelist.{Namelist}
use Rattle.wf_model.specs.declared.config.Config.{Config}
use Rattle.wf_model.specs.declared.plan.Domain.{Domain}
use Rattle.wf_model.specs.declared.plan.Plan.{Plan}
use Rattle.wf_model.specs.declared.plan.Item.{Item}
use Rattle.wf_model.specs.declared.table.HookName.{HookName}
use Rattle.wf_model.specs.Reading.{first_fault}
use Rattle.wf_model.specs.Config.{config_of}
use Rattle.wf_model.specs.Calendar.{Moment, moment_of, text_of}
use Rattle.wf_model.specs.Dates.{is_date, seconds_before, last_moment, is_stamp}
use Rattle.wf_model.specs.Plans.{domain_of, no_domain}
use Rattle.wf_model.specs.PlanDomains.{amount, domain_from, domains_to, domain_total, interval_names, frames_names, minutes, run_seconds, start_moment, step_seconds}
use Rattle.wf_model.specs.PlanOf.{plan_from}
use Rattle.wf_model.specs.PlanTests.{domain_faults, parent_of, at_edge, counted_start}
use Rattle.wf_model.specs.Ranges.{Within, IsRangedDomain}
use Rattle.wf_model.specs.Sound.{IsDomain, IsSoundNest, IsTimedNest, IsSoundFirst, IsSoundTime}
use Rattle.wf_config_laws.specs.RangedValues.{HasNumber, HasDomainValues, HasRangedValues}
use Rattle.wf_config_laws.specs.SoundDomains.{HasSoundDomains}
use Rattle.wf_config_laws.proofs.Passed.{passed_if}
use Rattle.wf_config_laws.proofs.Facts.{parent_facts, odd_fact, multiple_fact, size_facts, neither_of, edge_facts, end_fact, start_facts, nest_is, either_within, whole_quotient, quotient_within, steps_fit, no_seconds}
use Rattle.wf_config_laws.proofs.Domains.{domain_at, domain_is, count_is, by_place, start_is, steps_are, width_is}
use Rattle.wf_config_laws.proofs.Tests.{NestPasses, DomainsPass, domains_pass}
use Rattle.wf_config_laws.proofs.Values.{bound_values_ranged}
use Rattle.wf_config_laws.proofs.Times.{read_back, stamped, within_day}

-- an interval in steps
interval_steps : (m seconds : ℕ) → m ≤ 100000 → m * 60 / seconds ≤ 100000 * 60
interval_steps m seconds h = omega (arith, h, div-le_self (m * 60) seconds)

-- a domain whose values are in range, with a step in range
ranged_from : (config : Config) (before : List Domain) (d : ℕ) → HasDomainValues config d → Within 1 3600 (step_seconds config before d) → IsRangedDomain (domain_from config before d)
ranged_from config before d values seconds = record {
  ide = values.e_we.within;
  jde = values.e_sn.within;
  kde = values.e_vert.within;
  i_start = values.i_parent_start.within;
  j_start = values.j_parent_start.within;
  ratio = either_within (d == 1) 1 15 1 (amount config (codes "parent_grid_ratio") d) (omega arith, omega arith) values.parent_grid_ratio.within;
  time_ratio = either_within (d == 1) 1 16 1 (amount config (codes "parent_time_step_ratio") d) (omega arith, omega arith) values.parent_time_step_ratio.within;
  seconds = seconds;
  interval_count = refl;
  intervals =
      let steps = step_seconds config before d in
      All-map (λ n. n ≤ 100000 * 60) (λ m. m * 60 / steps) (minutes config d)
      (All-map (λ m. m * 60 / steps ≤ 100000 * 60) (λ name. amount config name d) interval_names
      (All-weaker (HasNumber config d 0 100000) (λ name. amount config name d * 60 / steps ≤ 100000 * 60) (λ name h. interval_steps (amount config name d) steps h.within.1) interval_names values.intervals));
  frame_count = refl;
  frames = All-map (Within 1 100000) (λ name. amount config name d) frames_names
      (All-weaker (HasNumber config d 1 100000) (λ name. Within 1 100000 (amount config name d)) (λ name h. h.within) frames_names values.frames);
}

holds : (b : Bool) → not b ≡ false → b ≡ true
holds true e = refl
holds false e = cc

module _ (config : Config) (hooks : List HookName) (items : List Item) (values : HasRangedValues config) (passes : DomainsPass config (plan_from config hooks items)) where
  abbrev plan : Plan
  plan = plan_from config hooks items

  abbrev before : ℕ → List Domain
  before d = domains_to config (d - 1)

  abbrev IsNest : ℕ → Type 0
  IsNest c = (1 < c) × (c ≤ domain_total config)

  upto_count : (d : ℕ) → d ≤ domain_total config → d ≤ length plan.domains
  upto_count d h = omega (arith, h, count_is config hooks items)

  here : (d : ℕ) → 1 ≤ d → d ≤ domain_total config → domain_of plan d ≡ domain_from config (before d) d
  here d from upto = domain_is config hooks items d from upto

  tests : (c : ℕ) → IsNest c → NestPasses plan c
  tests c h = passes.nests c h.0 (upto_count c h.1)

  -- ---- a nest and its parent

  parent_before : (c : ℕ) → IsNest c → (1 ≤ (domain_of plan c).parent) × ((domain_of plan c).parent < c)
  parent_before c h = parent_facts (domain_of plan c).parent c (passed_if _ _ (tests c h).parent)

  parent_is : (c : ℕ) → IsNest c → (domain_of plan c).parent ≡ amount config (codes "parent_id") c
  parent_is c h = ap (λ (x : Domain). x.parent) (here c (omega (arith, h)) h.1) ∙ nest_is c 0 (amount config (codes "parent_id") c) h.0

  time_ratio_is : (c : ℕ) → IsNest c → (domain_of plan c).time_ratio ≡ amount config (codes "parent_time_step_ratio") c
  time_ratio_is c h = ap (λ (x : Domain). x.time_ratio) (here c (omega (arith, h)) h.1) ∙ nest_is c 1 (amount config (codes "parent_time_step_ratio") c) h.0

  -- a domain before another one is a domain of the plan
  earlier : (c p : ℕ) → 1 ≤ p → p < c → c ≤ domain_total config → slice_index_or (before c) (p - 1) no_domain ≡ domain_of plan p
  earlier c p some less upto =
      domain_at config (c - 1) (p - 1) no_domain (omega (arith, some, less)) ∙ ap (domain_from config (before p)) (omega (arith, some)) ∙ sym (here p some (omega (arith, less, upto)))

  -- a nest's step is its parent's by the ratio
  step_is : (c : ℕ) → IsNest c → (domain_of plan c).seconds ≡ (parent_of plan c).seconds / (domain_of plan c).time_ratio
  step_is c h =
      let p = amount config (codes "parent_id") c in
      let ratio = amount config (codes "parent_time_step_ratio") c in
      let is = parent_is c h in
      let order = parent_before c h in
      ap (λ (x : Domain). x.seconds) (here c (omega (arith, h)) h.1)
      ∙ nest_is c (amount config (codes "time_step") 1) ((slice_index_or (before c) (p - 1) no_domain).seconds / ratio) h.0
      ∙ ap₂ (λ (s r : ℕ). s / r)
      (ap (λ (x : Domain). x.seconds) (earlier c p (omega (arith, is, order)) (omega (arith, is, order)) h.1) ∙ ap (λ q. (domain_of plan q).seconds) (sym is))
      (sym (time_ratio_is c h))

  whole_step : (c : ℕ) → IsNest c → (parent_of plan c).seconds % (domain_of plan c).time_ratio ≡ 0
  whole_step c h = multiple_fact (parent_of plan c).seconds (domain_of plan c).time_ratio (passed_if _ _ (tests c h).step)

  some_domain : 1 ≤ domain_total config
  some_domain = values.own.max_dom.within.0

  first_here : domain_of plan 1 ≡ domain_from config (before 1) 1
  first_here = here 1 (omega arith) some_domain

  first_seconds : (domain_of plan 1).seconds ≡ amount config (codes "time_step") 1
  first_seconds = ap (λ (x : Domain). x.seconds) first_here

  -- ---- ranges

  seconds_within : (most d : ℕ) → d ≤ most → 1 ≤ d → d ≤ domain_total config → Within 1 3600 (domain_of plan d).seconds
  seconds_within zero d low from upto = absurd (omega (arith, low, from))
  seconds_within (suc most) d low from upto =
      ⊎_elim
      (λ above.
      let before = parent_before d (above, upto) in
      subst (Within 1 3600) (sym (step_is d (above, upto)))
      (quotient_within (parent_of plan d).seconds (domain_of plan d).time_ratio (seconds_within most (domain_of plan d).parent (omega (arith, before, low)) before.0 (omega (arith, before, upto))) (whole_step d (above, upto))))
      (λ one. subst (λ n. Within 1 3600 (domain_of plan n).seconds) (omega (arith, one, from)) (subst (Within 1 3600) (sym first_seconds) values.own.time_step.within))
      (cases_lt 1 d)

  ranged : (d : ℕ) → 1 ≤ d → d ≤ domain_total config → IsRangedDomain (domain_of plan d)
  ranged d from upto =
      let is = here d from upto in
      let seconds = subst (Within 1 3600) (ap (λ (x : Domain). x.seconds) is) (seconds_within d d (omega arith) from upto) in
      subst IsRangedDomain (sym is) (ranged_from config (before d) d (values.domains d from upto) seconds)

  all_ranged : All IsRangedDomain plan.domains
  all_ranged = All-from_get_or IsRangedDomain plan.domains no_domain
      (λ i h. subst IsRangedDomain (by_place plan i) (ranged (i + 1) (omega arith) (omega (arith, h, count_is config hooks items))))

  -- ---- nests

  sound_nest : (c : ℕ) → IsNest c → IsSoundNest plan c
  sound_nest c h =
      let x = domain_of plan c in
      let t = tests c h in
      let p = parent_before c h in
      let size = size_facts (x.ide - 1) (x.jde - 1) x.ratio x.kde (parent_of plan c).kde (passed_if _ _ t.size) in
      let edges = neither_of (at_edge x.i_start ((x.ide - 1) / x.ratio) ((parent_of plan c).ide - 1)) (at_edge x.j_start ((x.jde - 1) / x.ratio) ((parent_of plan c).jde - 1)) (passed_if _ _ t.edge) in
      let straight = neither_of x.periodic_x x.periodic_y (passed_if _ _ t.periodic) in
      record {
        parent = (p.0, upto_count x.parent (omega (arith, p, h)));
        before = p.1;
        odd = odd_fact x.ratio (passed_if _ _ t.ratio);
        cells_x = size.0;
        cells_y = size.1;
        seconds = ap (λ s. s * x.time_ratio) (step_is c h) ∙ whole_quotient (parent_of plan c).seconds x.time_ratio (whole_step c h);
        straight_x = straight.0;
        straight_y = straight.1;
        inside_x = edge_facts x.i_start ((x.ide - 1) / x.ratio) ((parent_of plan c).ide - 1) edges.0;
        inside_y = edge_facts x.j_start ((x.jde - 1) / x.ratio) ((parent_of plan c).jde - 1) edges.1;
        high = size.2;
      }

  timed_nest : (c : ℕ) → IsNest c → IsTimedNest plan c
  timed_nest c h =
      let x = domain_of plan c in
      let y = parent_of plan c in
      let facts = start_facts (int_rem_euclid x.begins (pos y.seconds)) (counted_start plan x.begins) (counted_start plan y.begins) x.begins plan.restart (passed_if _ _ (tests c h).start) in
      record { whole = facts.0; after_parent = facts.1; after_first = facts.2 }

  -- ---- times

  first_is : IsSoundFirst (domain_of plan 1)
  first_is = record {
    begins = ap (λ (x : Domain). x.begins) first_here ∙ no_seconds (seconds_before (start_moment config 1));
    ratio = ap (λ (x : Domain). x.ratio) first_here;
    time_ratio = ap (λ (x : Domain). x.time_ratio) first_here;
  }

  start : Moment
  start = start_moment config 1

  dated : is_date start.date ≡ true
  unfolding start
  dated = holds (is_date (start_moment config 1).date) (passed_if _ _ (passes.dates 1 (omega arith) (upto_count 1 some_domain)))

  in_day : start.second < 86400
  unfolding start
  in_day =
      let v = values.domains 1 (omega arith) some_domain in
      within_day (amount config (codes "start_hour") 1) (amount config (codes "start_minute") 1) (amount config (codes "start_second") 1) v.start_hour.within.1 v.start_minute.within.1 v.start_second.within.1

  begins_as : plan.start ≡ text_of start
  unfolding start
  begins_as = start_is config hooks items

  ends_within : seconds_before start + run_seconds config ≤ seconds_before last_moment
  unfolding start
  ends_within = end_fact (seconds_before last_moment) (seconds_before (start_moment config 1) + run_seconds config) (passed_if _ _ passes.ending)

  sound_time : IsSoundTime plan
  sound_time =
      let t = amount config (codes "time_step") 1 in
      let run = run_seconds config in
      let read = ap moment_of begins_as ∙ read_back start dated in_day in
      let length_is : plan.steps * (domain_of plan 1).seconds ≡ run / t * t = ap₂ (λ (m n : ℕ). m * n) (steps_are config hooks items) first_seconds in
      record {
        start = subst (λ text. IsTrue (is_stamp text)) (sym begins_as) (stamped start dated in_day);
        finish = subst (λ n. n ≤ seconds_before last_moment) (sym (ap₂ (λ (m : Moment) n. seconds_before m + n) read length_is)) (steps_fit (seconds_before start) run t (seconds_before last_moment) ends_within);
      }

  -- ---- all of it

  nest_of : (c : ℕ) → 1 < c → IsDomain plan c → IsNest c
  nest_of c above is = (above, omega (arith, is, count_is config hooks items))

  pub sound_domains : HasSoundDomains plan
  sound_domains = record {
    some = upto_count 1 some_domain;
    few = omega (arith, count_is config hooks items, values.own.max_dom.within.1);
    ranged = all_ranged;
    each = λ d is. ranged d is.0 (omega (arith, is.1, count_is config hooks items));
    first = first_is;
    time = sound_time;
    nests = λ c above is. sound_nest c (nest_of c above is);
    timed = λ c above is. timed_nest c (nest_of c above is);
    bdy_width = subst (Within 1 20) (sym (width_is config hooks items)) values.own.spec_bdy_width.within;
  }

pub domains_ranged : (config : Config) (hooks : List HookName) (items : List Item) → HasRangedValues config
    → first_fault (domain_faults config (plan_from config hooks items)) ≡ None → HasSoundDomains (plan_from config hooks items)
domains_ranged config hooks items values passes = sound_domains config hooks items values (domains_pass config (plan_from config hooks items) passes)

pub bound_domains_ranged : (registry : Registry) (namelist : Namelist) (config : Config) (hooks : List HookName) (items : List Item) → config_of registry namelist ≡ Ok config
    → first_fault (domain_faults config (plan_from config hooks items)) ≡ None → HasSoundDomains (plan_from config hooks items)
bound_domains_ranged registry namelist config hooks items bound passes = domains_ranged config hooks items (bound_values_ranged registry namelist config bound) passes
