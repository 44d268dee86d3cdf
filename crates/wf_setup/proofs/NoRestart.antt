-- A plan that is accepted is no restart and writes no restart files, and its domain starts in time.
use Rattle.std.proofs.Common.{◌≡◌, ◌∙◌, ℕ, zero, suc, ◌+◌, ◌*◌, ◌/◌, ◌≤◌, Bool, false, List, [], ◌∷◌, ◌++◌, map, take, Some, None, Ok, refl, ap, subst, arith, codes}
use Rattle.std.specs.Prelude.{ℤ, pos, int_lt, slice_get, IsFalse}
use Rattle.std.specs.List.{list_any, range_with_len}
use Rattle.std.proofs.lemmas.Int.{ints}
use Rattle.std.proofs.lemmas.Bool.{or_parts}
use Rattle.std.proofs.Math.Nat.{div-le_self}
use Rattle.wf_model.specs.declared.namelist.Value.{Value}
use Rattle.wf_model.specs.declared.namelist.Value.TheVariants as value
use Rattle.wf_model.specs.declared.namelist.Namelist.{Namelist}
use Rattle.wf_model.specs.declared.registry.Registry.{Registry}
use Rattle.wf_model.specs.declared.config.Config.{Config}
use Rattle.wf_model.specs.declared.plan.Plan.{Plan}
use Rattle.wf_model.specs.declared.plan.Item.{Item}
use Rattle.wf_model.specs.declared.table.HookName.{HookName}
use Rattle.wf_model.specs.declared.plan_fault.PlanFault.TheVariants.{NotBuilt}
use Rattle.wf_model.specs.Config.{config_of, values_of}
use Rattle.wf_model.specs.Calendar.{moment_of}
use Rattle.wf_model.specs.Dates.{last_moment, seconds_before}
use Rattle.wf_model.specs.Reading.{first_fault}
use Rattle.wf_model.specs.Plans.{domain_of}
use Rattle.wf_model.specs.PlanDomains.{amount, int_of, logical_of, domain_total}
use Rattle.wf_model.specs.PlanOf.{plan_from, plan_of}
use Rattle.wf_model.specs.PlanTests.{Unbuilt, is_above, is_set, unbuilt, unbuilt_fault, until_restart}
use Rattle.wf_model.specs.Script.{not_before}
use Rattle.wf_model.specs.Sound.{IsSoundTime}
use Rattle.wf_config_laws.specs.RangedValues.{HasRangedValues}
use Rattle.wf_config_laws.proofs.Values.{bound_values_ranged}
use Rattle.wf_registry_laws.proofs.Tests.{or_none, if_fails}
use Rattle.wf_plan_laws.proofs.Tests.{plans_pass_their_tests}
use Rattle.wf_stream.specs.Inputs.{StartsInTime}
use Rattle.wf_setup.specs.SetUp.{IsSinglePlan}

-- ---- the values of domain 1 ask for nothing

-- no logical is set
not_set : (v : Value) → is_set v ≡ false → IsFalse (logical_of (Some v))
not_set (value.Int z) e = refl
not_set (value.Decimal digits) e = refl
not_set (value.Logical b) e = e
not_set (value.Text text) e = refl

pub none_set : (vs : List Value) (n : ℕ) → 1 ≤ n → list_any is_set (take n vs) ≡ false → IsFalse (logical_of (slice_get vs 0))
none_set [] n some e = refl
none_set (v ∷ vs) zero some e = absurd (omega arith)
none_set (v ∷ vs) (suc n) some e = not_set v (or_parts (is_set v) (list_any is_set (take n vs)) e).0

-- no number is above 0
not_above : (z : ℤ) (k : ℕ) → z ≡ pos k → int_lt (pos 0) z ≡ false → k ≡ 0
not_above z k is e = grind (arith, ints)

no_number : (k : ℕ) → pos 0 ≡ pos k → k ≡ 0
no_number k is = grind (arith, ints)

is_none : (v : Value) (k : ℕ) → int_of (Some v) ≡ pos k → is_above 0 v ≡ false → k ≡ 0
is_none (value.Int z) k is e = not_above z k is e
is_none (value.Decimal digits) k is e = no_number k is
is_none (value.Logical b) k is e = no_number k is
is_none (value.Text text) k is e = no_number k is

pub none_above : (vs : List Value) (n k : ℕ) → 1 ≤ n → int_of (slice_get vs 0) ≡ pos k → list_any (is_above 0) (take n vs) ≡ false → k ≡ 0
none_above [] n k some is e = no_number k is
none_above (v ∷ vs) zero k some is e = absurd (omega arith)
none_above (v ∷ vs) (suc n) k some is e = is_none v k is (or_parts (is_above 0 v) (list_any (is_above 0) (take n vs)) e).0

-- no steps from one restart file to the next
no_steps : (minutes seconds : ℕ) → minutes ≡ 0 → minutes * 60 / seconds ≡ 0
no_steps minutes seconds none = omega (arith, none, div-le_self (minutes * 60) seconds)

-- ---- an accepted plan

-- it is no restart and writes no restart files
pub record UsesNoRestart (plan : Plan) : Type 0 where
  pub restart : IsFalse plan.restart
  pub files : plan.restart_steps ≡ 0

-- a name, and which values ask for what isn't built
named : List ℕ → (Value → Bool) → Unbuilt
named name asks = record { name = name; asks = asks }

from_tests : (config : Config) (hooks : List HookName) (items : List Item) → HasRangedValues config → first_fault (map (unbuilt_fault config) unbuilt) ≡ None → UsesNoRestart (plan_from config hooks items)
unfolding plan_from named
from_tests config hooks items values e =
    let some : 1 ≤ domain_total config = values.own.max_dom.within.0 in
    let streams = map (λ s. named (codes "auxhist" ++ ((48 + s) ∷ codes "_interval")) (is_above 0)) (range_with_len 1 9) in
    let one = or_none (unbuilt_fault config (named (codes "max_dom") (is_above 1))) (map (unbuilt_fault config) until_restart) e in
    let two = or_none (unbuilt_fault config (named (codes "restart") is_set)) (unbuilt_fault config (named (codes "restart_interval") (is_above 0)) ∷ map (unbuilt_fault config) streams) one.1 in
    let three = or_none (unbuilt_fault config (named (codes "restart_interval") (is_above 0))) (map (unbuilt_fault config) streams) two.1 in
    let restart = values_of config.values (codes "restart") in
    let minutes = values_of config.values (codes "restart_interval") in
    let none_asks : list_any (is_above 0) (take (domain_total config) minutes) ≡ false = if_fails (list_any (is_above 0) (take (domain_total config) minutes)) (NotBuilt (codes "restart_interval")) three.0 in
    record {
      restart = none_set restart (domain_total config) some (if_fails (list_any is_set (take (domain_total config) restart)) (NotBuilt (codes "restart")) two.0);
      files = no_steps (amount config (codes "restart_interval") 1) (amount config (codes "time_step") 1)
          (none_above minutes (domain_total config) (amount config (codes "restart_interval") 1) some values.own.restart_interval.number none_asks);
    }

pub no_restart : (registry : Registry) (namelist : Namelist) (config : Config) (hooks : List HookName) (items : List Item) (plan : Plan)
    → config_of registry namelist ≡ Ok config → plan_of config hooks items ≡ Ok plan → UsesNoRestart plan
no_restart registry namelist config hooks items plan bound given =
    let tests = plans_pass_their_tests config hooks items plan given in
    subst UsesNoRestart tests.0 (from_tests config hooks items (bound_values_ranged registry namelist config bound) tests.1.built)

-- ---- times

starts_at : (start finish last begins : ℕ) → start + finish ≤ last → begins ≡ 0 → start + begins ≤ last
starts_at start finish last begins h none = omega arith

pub starts_in_time : (plan : Plan) → IsSinglePlan plan → StartsInTime plan
starts_in_time plan single d is =
    let first : d ≡ 1 = omega (arith, is, single.single) in
    let begins : not_before (domain_of plan d).begins ≡ 0 =
    ap (λ n. not_before (domain_of plan n).begins) first ∙ ap not_before single.ranged.first.begins in
    let time : IsSoundTime plan = single.ranged.time in
    starts_at (seconds_before (moment_of plan.start)) (plan.steps * (domain_of plan 1).seconds) (seconds_before last_moment) (not_before (domain_of plan d).begins) time.finish begins
