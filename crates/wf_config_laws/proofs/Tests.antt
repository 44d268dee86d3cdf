-- The tests of domains and times pass, each for each domain or nest.
use Rattle.std.proofs.Common.{◌≡◌, ℕ, ◌+◌, ◌-◌, ◌<◌, ◌≤◌, nat_lt, true, [], ◌∷◌, ◌++◌, map, flat_map, length, Option, Some, None, ap, ◌∙◌, arith}
use Rattle.std.proofs.lemmas.Bool.Decides.{nat_tests}
use Rattle.wf_model.specs.declared.config.Config.{Config}
use Rattle.wf_model.specs.declared.plan.Plan.{Plan}
use Rattle.wf_model.specs.declared.plan_fault.PlanFault.{PlanFault}
use Rattle.wf_model.specs.Reading.{first_fault}
use Rattle.wf_model.specs.Plans.{domains_of}
use Rattle.wf_model.specs.PlanTests.{date_fault, end_fault, parent_fault, ratio_fault, size_fault, edge_fault, periodic_fault, step_fault, run_fault, start_fault, interval_faults, nests_of, domain_faults}
use Rattle.wf_config_laws.proofs.Passed.{neither, both_passed, passed_range, passed_kept, at_range}

-- the tests of a nest
pub record NestPasses (plan : Plan) (c : ℕ) : Type 0 where
  pub parent : parent_fault plan c ≡ None
  pub ratio : ratio_fault plan c ≡ None
  pub size : size_fault plan c ≡ None
  pub edge : edge_fault plan c ≡ None
  pub periodic : periodic_fault plan c ≡ None
  pub step : step_fault plan c ≡ None
  pub start : start_fault plan c ≡ None

pub record DomainsPass (config : Config) (plan : Plan) : Type 0 where
  pub dates : (d : ℕ) → 1 ≤ d → d ≤ length plan.domains → date_fault config d ≡ None
  pub ending : end_fault config ≡ None
  pub nests : (c : ℕ) → 1 < c → c ≤ length plan.domains → NestPasses plan c

of_nests : (plan : Plan) (f : ℕ → Option PlanFault) → first_fault (map f (nests_of plan)) ≡ None → (c : ℕ) → 1 < c → c ≤ length plan.domains → f c ≡ None
of_nests plan f e c above upto =
    let place : 1 + (c - 1) ≡ c = omega (arith, above) in
    passed_kept f (nat_lt 1) (domains_of plan) (c - 1) c e (at_range 1 (length plan.domains) (c - 1) (omega (arith, above, upto)) ∙ ap (λ m. Some m) place) (is_above c above)
  where
    is_above : (c : ℕ) → 1 < c → nat_lt 1 c ≡ true
    is_above c h = grind (arith, nat_tests)

pub domains_pass : (config : Config) (plan : Plan) → first_fault (domain_faults config plan) ≡ None → DomainsPass config plan
unfolding domain_faults
domains_pass config plan e =
    let nests = nests_of plan in
    let dates = map (date_fault config) (domains_of plan) in
    let to_end = dates ++ (end_fault config ∷ []) in
    let to_parents = to_end ++ map (parent_fault plan) nests in
    let to_ratios = to_parents ++ map (ratio_fault plan) nests in
    let to_sizes = to_ratios ++ map (size_fault plan) nests in
    let to_edges = to_sizes ++ map (edge_fault plan) nests in
    let to_periodic = to_edges ++ map (periodic_fault plan) nests in
    let to_steps = to_periodic ++ map (step_fault plan) nests in
    let to_run = to_steps ++ (run_fault config plan ∷ []) in
    let to_starts = to_run ++ map (start_fault plan) nests in
    let pass_to_starts = both_passed to_starts (flat_map (interval_faults config plan) (domains_of plan)) e in
    let pass_to_run = both_passed to_run (map (start_fault plan) nests) pass_to_starts.0 in
    let pass_to_steps = both_passed to_steps (run_fault config plan ∷ []) pass_to_run.0 in
    let pass_to_periodic = both_passed to_periodic (map (step_fault plan) nests) pass_to_steps.0 in
    let pass_to_edges = both_passed to_edges (map (periodic_fault plan) nests) pass_to_periodic.0 in
    let pass_to_sizes = both_passed to_sizes (map (edge_fault plan) nests) pass_to_edges.0 in
    let pass_to_ratios = both_passed to_ratios (map (size_fault plan) nests) pass_to_sizes.0 in
    let pass_to_parents = both_passed to_parents (map (ratio_fault plan) nests) pass_to_ratios.0 in
    let pass_to_end = both_passed to_end (map (parent_fault plan) nests) pass_to_parents.0 in
    let pass_dates = both_passed dates (end_fault config ∷ []) pass_to_end.0 in
    record {
      dates = λ n from upto.
          ap (date_fault config) (omega (arith, from)) ∙ passed_range (date_fault config) 1 (length plan.domains) (n - 1) pass_dates.0 (omega (arith, from, upto));
      ending = (neither (end_fault config) None pass_dates.1).0;
      nests = λ n above upto. record {
        parent = of_nests plan (parent_fault plan) pass_to_end.1 n above upto;
        ratio = of_nests plan (ratio_fault plan) pass_to_parents.1 n above upto;
        size = of_nests plan (size_fault plan) pass_to_ratios.1 n above upto;
        edge = of_nests plan (edge_fault plan) pass_to_sizes.1 n above upto;
        periodic = of_nests plan (periodic_fault plan) pass_to_edges.1 n above upto;
        step = of_nests plan (step_fault plan) pass_to_periodic.1 n above upto;
        start = of_nests plan (start_fault plan) pass_to_run.1 n above upto;
      };
    }
