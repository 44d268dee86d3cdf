-- Which fault of a config's domains and times comes first.
use Rattle.std.proofs.Common.{◌≡◌, ℕ, List, [], ◌∷◌, ◌++◌, map, length, Option, Some, None, Ok, Err, refl, sym, ap, ap₂, ◌∙◌}
use Rattle.std.specs.List.{flat_map}
use Rattle.std.specs.Option.{option_or}
use Rattle.wf_model.specs.declared.config.Config.{Config}
use Rattle.wf_model.specs.declared.plan.Plan.{Plan}
use Rattle.wf_model.specs.declared.plan_fault.PlanFault.{PlanFault}
use Rattle.wf_model.specs.Reading.{first_fault, unless_fault}
use Rattle.wf_model.proofs.ReadingLemmas.{first_fault-append}
use Rattle.wf_model.specs.PlanDomains.{domain_total}
use Rattle.wf_model.specs.PlanTests.{unbuilt, unbuilt_fault, domain_faults, nests_of, date_fault, end_fault, parent_fault, ratio_fault, size_fault, edge_fault, periodic_fault, step_fault, run_fault, start_fault, interval_faults}
use Rattle.wf_model.specs.Plans.{domains_of, up_to}
use Rattle.wf_plan_domains.specs.DomainPlans.{domain_plan_from, domain_plan_of}
use Rattle.wf_plan_domains.specs.DomainTests.{nests_found, unbuilt_found}
use Rattle.wf_plan_domains.proofs.FirstFound.{or_none}
use Rattle.wf_plan_domains.proofs.MadeDomains.{length-domains_to}

or_assoc : {F : Type 0} (a b c : Option F) → option_or (option_or a b) c ≡ option_or a (option_or b c)
or_assoc None b c = refl
or_assoc (Some f) b c = refl

-- six lists of tests
pub six : {F : Type 0} (a b c d e f : List (Option F))
    → option_or (option_or (option_or (option_or (option_or (first_fault a) (first_fault b)) (first_fault c)) (first_fault d)) (first_fault e)) (first_fault f)
    ≡ first_fault (a ++ b ++ c ++ d ++ e ++ f)
six a b c d e f = simp (first_fault-append, or_assoc)

abbrev grouped : {F : Type 0} → Option F → Option F → Option F → Option F → Option F → Option F → Option F
grouped dates end nests run starts intervals = option_or (option_or (option_or (option_or (option_or dates end) nests) run) starts) intervals

eleven : {F : Type 0} (dates p r s e q t starts intervals : List (Option F)) (end run : Option F)
    → grouped (first_fault dates) end (first_fault (p ++ r ++ s ++ e ++ q ++ t)) run (first_fault starts) (first_fault intervals)
    ≡ first_fault (dates ++ (end ∷ []) ++ p ++ r ++ s ++ e ++ q ++ t ++ (run ∷ []) ++ starts ++ intervals)
eleven dates p r s e q t starts intervals end run = simp (first_fault-append, or_assoc, or_none)

-- what the tests of domains and times find, by groups
pub found : (config : Config) (plan : Plan)
    → grouped (first_fault (map (date_fault config) (domains_of plan))) (end_fault config) (nests_found plan) (run_fault config plan) (first_fault (map (start_fault plan) (nests_of plan)))
    (first_fault (flat_map (interval_faults config plan) (domains_of plan)))
    ≡ first_fault (domain_faults config plan)
unfolding domain_faults nests_found
found config plan =
    eleven (map (date_fault config) (domains_of plan)) (map (parent_fault plan) (nests_of plan)) (map (ratio_fault plan) (nests_of plan)) (map (size_fault plan) (nests_of plan))
    (map (edge_fault plan) (nests_of plan)) (map (periodic_fault plan) (nests_of plan)) (map (step_fault plan) (nests_of plan)) (map (start_fault plan) (nests_of plan))
    (flat_map (interval_faults config plan) (domains_of plan)) (end_fault config) (run_fault config plan)

-- so many domains are made
pub total_is : (config : Config) → length (domain_plan_from config).domains ≡ domain_total config
unfolding domain_plan_from
total_is config = length-domains_to config (domain_total config)

judged : (config : Config) → domain_plan_of config ≡ unless_fault (option_or (unbuilt_found config) (first_fault (domain_faults config (domain_plan_from config)))) (domain_plan_from config)
unfolding domain_plan_of unbuilt_found
judged config =
    ap (λ f. unless_fault f (domain_plan_from config)) (first_fault-append (map (unbuilt_fault config) unbuilt) (domain_faults config (domain_plan_from config)))

-- ---- the first of them

pub refused_unbuilt : (config : Config) (f : PlanFault) → Some f ≡ unbuilt_found config → domain_plan_of config ≡ Err f
refused_unbuilt config f here =
    judged config ∙ ap (λ u. unless_fault (option_or u (first_fault (domain_faults config (domain_plan_from config)))) (domain_plan_from config)) (sym here)

pub refused_test : (config : Config) (plan : Plan) (f : PlanFault) → None ≡ unbuilt_found config → plan ≡ domain_plan_from config → Some f ≡ first_fault (domain_faults config plan)
    → domain_plan_of config ≡ Err f
refused_test config plan f before made here =
    judged config
    ∙ ap₂ (λ u d. unless_fault (option_or u d) (domain_plan_from config)) (sym before) (ap (λ p. first_fault (domain_faults config p)) (sym made) ∙ sym here)

pub refused_date : (config : Config) (total : ℕ) (f : PlanFault) → None ≡ unbuilt_found config → total ≡ domain_total config → Some f ≡ first_fault (map (date_fault config) (up_to total))
    → domain_plan_of config ≡ Err f
refused_date config total f before is here =
    let plan = domain_plan_from config in
    let dates : Some f ≡ first_fault (map (date_fault config) (domains_of plan)) = here ∙ ap (λ n. first_fault (map (date_fault config) (up_to n))) (is ∙ sym (total_is config)) in
    refused_test config plan f before refl
    (ap (λ d. grouped d (end_fault config) (nests_found plan) (run_fault config plan) (first_fault (map (start_fault plan) (nests_of plan))) (first_fault (flat_map (interval_faults config plan) (domains_of plan)))) dates
    ∙ found config plan)

pub accepted : (config : Config) (plan : Plan) → None ≡ unbuilt_found config → plan ≡ domain_plan_from config → None ≡ first_fault (domain_faults config plan)
    → domain_plan_of config ≡ Ok plan
accepted config plan before made here =
    judged config
    ∙ ap₂ (λ u d. unless_fault (option_or u d) (domain_plan_from config)) (sym before) (ap (λ p. first_fault (domain_faults config p)) (sym made) ∙ sym here)
    ∙ ap (λ (p : Plan). Ok p) (sym made)
