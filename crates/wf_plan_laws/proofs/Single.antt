-- How many domains a plan has.
use Rattle.std.proofs.Common.{◌≡◌, ℕ, zero, suc, ◌+◌, ◌≤◌, false, List, [], ◌∷◌, length, map, take, Some, refl, arith, length-append}
use Rattle.std.specs.Prelude.{ℤ, pos, int_lt, slice_get, codes}
use Rattle.std.specs.List.{list_any}
use Rattle.std.proofs.lemmas.Int.{ints}
use Rattle.std.proofs.lemmas.Bool.{or_parts}
use Rattle.wf_model.specs.declared.namelist.Value.{Value}
use Rattle.wf_model.specs.declared.namelist.Value.TheVariants as value
use Rattle.wf_model.specs.declared.config.Config.{Config}
use Rattle.wf_model.specs.declared.plan_fault.PlanFault.TheVariants.{NotBuilt}
use Rattle.wf_model.specs.Config.{values_of}
use Rattle.wf_model.specs.PlanDomains.{int_of, domain_total, domains_to, domain_from}
use Rattle.wf_model.specs.PlanOf.{plan_from}
use Rattle.wf_model.specs.PlanTests.{is_above, unbuilt_fault, until_restart}
use Rattle.wf_registry_laws.proofs.Tests.{or_none, if_fails}
use Rattle.wf_plan_laws.specs.PartLaws.{DomainsAreCounted, DomainsAreSingle}

count_to : (config : Config) (n : ℕ) → length (domains_to config n) ≡ n
unfolding domains_to
count_to config zero = refl
count_to config (suc n) =
    let before : length (domains_to config n) ≡ n = count_to config n in
    omega (arith, before, length-append (domains_to config n) (domain_from config (domains_to config n) (n + 1) ∷ []))

pub domains_are_counted : DomainsAreCounted
unfolding plan_from
domains_are_counted config hooks items = count_to config (domain_total config)

-- ---- max_dom

small : (z : ℤ) (n : ℕ) → z ≡ pos n → int_lt (pos 1) z ≡ false → n ≤ 1
small z n e t = grind (arith, ints)

none_small : (n : ℕ) → pos 0 ≡ pos n → n ≤ 1
none_small n e = grind (arith, ints)

none_above : (v : Value) (n : ℕ) → int_of (Some v) ≡ pos n → is_above 1 v ≡ false → n ≤ 1
none_above (value.Int z) n e t = small z n e t
none_above (value.Decimal digits) n e t = none_small n e
none_above (value.Logical b) n e t = none_small n e
none_above (value.Text text) n e t = none_small n e

at_most_one : (vs : List Value) (n : ℕ) → int_of (slice_get vs 0) ≡ pos n → list_any (is_above 1) (take n vs) ≡ false → n ≤ 1
at_most_one [] n e t = none_small n e
at_most_one (v ∷ vs) zero e t = omega arith
at_most_one (v ∷ vs) (suc n) e t = none_above v (suc n) e (or_parts (is_above 1 v) (list_any (is_above 1) (take n vs)) t).0

pub domains_are_single : DomainsAreSingle
domains_are_single config sign e =
    let first = or_none (unbuilt_fault config (record { name = codes "max_dom"; asks = is_above 1 })) (map (unbuilt_fault config) until_restart) e in
    let vs = values_of config.values (codes "max_dom") in
    at_most_one vs (domain_total config) sign (if_fails (list_any (is_above 1) (take (domain_total config) vs)) (NotBuilt (codes "max_dom")) first.0)
