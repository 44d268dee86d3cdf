-- A config or its first refusal, from what each part of binding finds.
use Rattle.std.proofs.Common.{◌≡◌, ℕ, List, ◌++◌, Bor, map, Option, Some, None, Result, Ok, Err, sym, ap, ap₂, ◌∙◌}
use Rattle.std.specs.Prelude.{ℤ}
use Rattle.std.specs.Option.{option_or}
use Rattle.wf_model.specs.declared.registry.Registry.{Registry}
use Rattle.wf_model.specs.declared.namelist.Namelist.{Namelist}
use Rattle.wf_model.specs.declared.config.Config.{Config}
use Rattle.wf_model.specs.declared.config.ConfigFault.{ConfigFault}
use Rattle.wf_model.specs.Reading.{first_fault, unless_fault}
use Rattle.wf_model.proofs.ReadingLemmas.{first_fault-append}
use Rattle.wf_model.specs.Namelist.{Item}
use Rattle.wf_model.specs.BuiltIns.{built_ins}
use Rattle.wf_model.specs.Config.{Values, config_from, config_of, default_fault, domain_count, filled, float_fault, item_fault, known_items, max_dom, registry_rules, rules_of, wrong_rule}
use Rattle.wf_config.specs.declared.rule.Rule.{Rule}
use Rattle.wf_config.specs.Rules.{others, rule_of, with_defaults, wrong_rule_in}
use Rattle.wf_config.proofs.Loops.{map_map}

-- ---- four lists of tests

abbrev judged : {F A : Type 0} → Option F → Option F → Option F → Option F → A → Result A F
judged a b c d x = unless_fault (option_or (option_or (option_or a b) c) d) x

four : {F A : Type 0} (ks bs cs ds : List (Option F)) (x : A) → unless_fault (first_fault (ks ++ bs ++ cs ++ ds)) x ≡ judged (first_fault ks) (first_fault bs) (first_fault cs) (first_fault ds) x
four ks bs cs ds x =
    ap (λ f. unless_fault f x)
    (first_fault-append (ks ++ bs ++ cs) ds
    ∙ ap (λ f. option_or f (first_fault ds)) (first_fault-append (ks ++ bs) cs ∙ ap (λ f. option_or f (first_fault cs)) (first_fault-append ks bs)))

-- ---- what each part finds

abbrev pub items : Registry → Namelist → List Item
items registry namelist = known_items (rules_of registry) namelist

abbrev pub count : Registry → Namelist → ℕ
count registry namelist = domain_count (rules_of registry) (items registry namelist)

abbrev pub values : Registry → Namelist → Values
values registry namelist = map (filled (count registry namelist) (items registry namelist)) (rules_of registry)

abbrev pub in_declarations : Registry → Option ConfigFault
in_declarations registry = first_fault (map wrong_rule (registry_rules registry))

abbrev pub in_items : Registry → Namelist → Option ConfigFault
in_items registry namelist = first_fault (map (item_fault (rules_of registry) (max_dom (rules_of registry) (items registry namelist))) (items registry namelist))

abbrev pub in_defaults : Registry → Namelist → Option ConfigFault
in_defaults registry namelist = first_fault (map (default_fault (count registry namelist) (items registry namelist)) (rules_of registry))

abbrev pub in_fields : Registry → Namelist → Option ConfigFault
in_fields registry namelist = first_fault (map float_fault (config_from registry (values registry namelist)).fields)

abbrev all_found : Registry → Namelist → Result Config ConfigFault
all_found registry namelist = judged (in_declarations registry) (in_items registry namelist) (in_defaults registry namelist) (in_fields registry namelist) (config_from registry (values registry namelist))

bound : (registry : Registry) (namelist : Namelist) → config_of registry namelist ≡ all_found registry namelist
unfolding config_of
bound registry namelist =
    four (map wrong_rule (registry_rules registry))
    (map (item_fault (rules_of registry) (max_dom (rules_of registry) (items registry namelist))) (items registry namelist))
    (map (default_fault (count registry namelist) (items registry namelist)) (rules_of registry))
    (map float_fault (config_from registry (values registry namelist)).fields)
    (config_from registry (values registry namelist))

pub refused_declaration : (registry : Registry) (namelist : Namelist) (f : ConfigFault) → Some f ≡ in_declarations registry → config_of registry namelist ≡ Err f
refused_declaration registry namelist f here =
    bound registry namelist ∙ ap (λ a. judged a (in_items registry namelist) (in_defaults registry namelist) (in_fields registry namelist) (config_from registry (values registry namelist))) (sym here)

pub refused_item : (registry : Registry) (namelist : Namelist) (f : ConfigFault) → None ≡ in_declarations registry → Some f ≡ in_items registry namelist → config_of registry namelist ≡ Err f
refused_item registry namelist f before here =
    bound registry namelist ∙ ap₂ (λ a b. judged a b (in_defaults registry namelist) (in_fields registry namelist) (config_from registry (values registry namelist))) (sym before) (sym here)

pub refused_default : (registry : Registry) (namelist : Namelist) (f : ConfigFault) → None ≡ in_declarations registry → None ≡ in_items registry namelist → Some f ≡ in_defaults registry namelist
    → config_of registry namelist ≡ Err f
refused_default registry namelist f before second here =
    bound registry namelist
    ∙ ap₂ (λ a b. judged a b (in_defaults registry namelist) (in_fields registry namelist) (config_from registry (values registry namelist))) (sym before) (sym second)
    ∙ ap (λ c. judged None None c (in_fields registry namelist) (config_from registry (values registry namelist))) (sym here)

pub refused_field : (registry : Registry) (namelist : Namelist) (f : ConfigFault) → None ≡ in_declarations registry → None ≡ in_items registry namelist → None ≡ in_defaults registry namelist
    → Some f ≡ in_fields registry namelist → config_of registry namelist ≡ Err f
refused_field registry namelist f before second third here =
    bound registry namelist
    ∙ ap₂ (λ a b. judged a b (in_defaults registry namelist) (in_fields registry namelist) (config_from registry (values registry namelist))) (sym before) (sym second)
    ∙ ap₂ (λ c d. judged None None c d (config_from registry (values registry namelist))) (sym third) (sym here)

pub accepted : (registry : Registry) (namelist : Namelist) (config : Config) → None ≡ in_declarations registry → None ≡ in_items registry namelist → None ≡ in_defaults registry namelist
    → None ≡ in_fields registry namelist → config ≡ config_from registry (values registry namelist) → config_of registry namelist ≡ Ok config
accepted registry namelist config before second third fourth is =
    bound registry namelist
    ∙ ap₂ (λ a b. judged a b (in_defaults registry namelist) (in_fields registry namelist) (config_from registry (values registry namelist))) (sym before) (sym second)
    ∙ ap₂ (λ c d. judged None None c d (config_from registry (values registry namelist))) (sym third) (sym fourth)
    ∙ ap (λ (k : Config). Ok k) (sym is)

-- ---- the same as the code finds it

pub declarations_are : (registry : Registry) (table declared : List Rule) → map rule_of table ≡ built_ins → map rule_of declared ≡ registry_rules registry
    → first_fault (map (λ r. wrong_rule_in (map rule_of table) (rule_of r)) declared) ≡ in_declarations registry
declarations_are registry table declared are these =
    ap first_fault (sym (map_map rule_of (wrong_rule_in (map rule_of table)) declared))
    ∙ ap₂ (λ t d. first_fault (map (wrong_rule_in t) d)) are these

pub rules_are : (registry : Registry) (table declared rules : List Rule) → map rule_of table ≡ built_ins → map rule_of declared ≡ registry_rules registry
    → map rule_of rules ≡ with_defaults (map rule_of declared) (map rule_of table) ++ others (map rule_of table) (map rule_of declared) → map rule_of rules ≡ rules_of registry
rules_are registry table declared rules are these made = made ∙ ap₂ (λ t d. with_defaults d t ++ others t d) are these

abbrev now_of : Bor Item → Item
now_of i = i.now

pub max_is : (registry : Registry) (namelist : Namelist) (rules : List Rule) (known : List (Bor Item)) (max : ℤ) → map rule_of rules ≡ rules_of registry → map (λ i. i.now) known ≡ items registry namelist
    → max ≡ max_dom (map rule_of rules) (map (λ i. i.now) known) → max ≡ max_dom (rules_of registry) (items registry namelist)
max_is registry namelist rules known max these those is = is ∙ ap₂ max_dom these those

pub items_fault_is : (registry : Registry) (namelist : Namelist) (rules : List Rule) (known : List (Bor Item)) (max : ℤ) → map rule_of rules ≡ rules_of registry → map (λ i. i.now) known ≡ items registry namelist
    → max ≡ max_dom (rules_of registry) (items registry namelist)
    → first_fault (map (λ i. item_fault (map rule_of rules) max i.now) known) ≡ in_items registry namelist
items_fault_is registry namelist rules known max these those is =
    ap first_fault (sym (map_map now_of (item_fault (map rule_of rules) max) known))
    ∙ ap₂ (λ rs is. first_fault (map (item_fault rs max) is)) these those
    ∙ ap (λ m. first_fault (map (item_fault (rules_of registry) m) (items registry namelist))) is

pub defaults_fault_is : (registry : Registry) (namelist : Namelist) (rules : List Rule) (known : List (Bor Item)) (domains : ℕ) → map rule_of rules ≡ rules_of registry → map (λ i. i.now) known ≡ items registry namelist
    → domains ≡ count registry namelist
    → first_fault (map (λ r. default_fault domains (map (λ i. i.now) known) (rule_of r)) rules) ≡ in_defaults registry namelist
defaults_fault_is registry namelist rules known domains these those is =
    ap first_fault (sym (map_map rule_of (default_fault domains (map now_of known)) rules))
    ∙ ap₂ (λ rs is. first_fault (map (default_fault domains is) rs)) these those
    ∙ ap (λ d. first_fault (map (default_fault d (items registry namelist)) (rules_of registry))) is

pub values_are : (registry : Registry) (namelist : Namelist) (rules : List Rule) (known : List (Bor Item)) (domains : ℕ) → map rule_of rules ≡ rules_of registry → map (λ i. i.now) known ≡ items registry namelist
    → domains ≡ count registry namelist
    → map (λ r. filled domains (map (λ i. i.now) known) (rule_of r)) rules ≡ values registry namelist
values_are registry namelist rules known domains these those is =
    sym (map_map rule_of (filled domains (map now_of known)) rules)
    ∙ ap₂ (λ rs is. map (filled domains is) rs) these those
    ∙ ap (λ d. map (filled d (items registry namelist)) (rules_of registry)) is
