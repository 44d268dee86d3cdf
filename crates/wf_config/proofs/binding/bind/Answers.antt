use Rattle.std.proofs.Common.{◌≡◌, Bor, map, None, if◌then◌else◌, ap, ap₂, sym, ◌∙◌, rules, FitsSigned, to_z, of_z}
use Rattle.std.specs.Prelude.{pos, int_le, unsigned_abs}
use Rattle.std.specs.List.{filter}
use Rattle.std.specs.Int.{w128}
use Rattle.std.proofs.lemmas.Int.{to_z-of_z}
use Rattle.wf_model.specs.declared.config.Config.{Config}
use Rattle.wf_model.specs.Namelist.{Item}
use Rattle.wf_model.specs.Reading.{first_fault}
use Rattle.wf_model.specs.BuiltIns.{built_ins}
use Rattle.wf_model.specs.Config.{config_from, float_fault, max_dom, registry_rules, rules_of}
use Rattle.wf_config.specs.Rules.{knows_group, rule_of}
use Rattle.wf_config.proofs.Bound.{accepted, count, declarations_are, defaults_fault_is, in_declarations, in_defaults, in_fields, in_items, items, items_fault_is, max_is, refused_declaration, refused_default, refused_field, refused_item, rules_are, values, values_are}
use Rattle.wf_config.proofs.binding.bind.Goals as goal

pub returns-in-Some : goal.returns-in-Some
returns-in-Some c =
    let table : map rule_of c.as_slice-table.result.now ≡ built_ins = ap (map rule_of) c.as_slice-table.ensures.value ∙ c.in_ok-built_ins.ensures in
    let declared : map rule_of c.as_slice.result.now ≡ registry_rules c.args.registry.now = ap (map rule_of) c.as_slice.ensures.value ∙ c.in_ok-declared.ensures in
    let wrong : c.in_ok-wrong.wrong ≡ in_declarations c.args.registry.now = c.in_ok-wrong.ensures ∙ declarations_are c.args.registry.now c.as_slice-table.result.now c.as_slice.result.now table declared in
    refused_declaration c.args.registry.now c.args.namelist.now c.in-Some.fault (sym c.in-Some.is ∙ wrong)

pub returns-in-Some-refused : goal.returns-in-Some-refused
returns-in-Some-refused c =
    let table : map rule_of c.as_slice-table.result.now ≡ built_ins = ap (map rule_of) c.as_slice-table.ensures.value ∙ c.in_ok-built_ins.ensures in
    let declared : map rule_of c.as_slice.result.now ≡ registry_rules c.args.registry.now = ap (map rule_of) c.as_slice.ensures.value ∙ c.in_ok-declared.ensures in
    let wrong : c.in_ok-wrong.wrong ≡ in_declarations c.args.registry.now = c.in_ok-wrong.ensures ∙ declarations_are c.args.registry.now c.as_slice-table.result.now c.as_slice.result.now table declared in
    let first : None ≡ in_declarations c.args.registry.now = (let none : None ≡ c.in_ok-wrong.wrong = search rules in none) ∙ wrong in
    let these : map rule_of c.as_slice-rules.result.now ≡ rules_of c.args.registry.now = ap (map rule_of) c.as_slice-rules.ensures.value ∙ rules_are c.args.registry.now c.as_slice-table.result.now c.in_ok-declared.declared.items c.in_ok-all_rules.all_rules.items table c.in_ok-declared.ensures c.in_ok-all_rules.ensures in
    let those : map (λ (i : Bor Item). i.now) c.as_slice-items.result.now ≡ items c.args.registry.now c.args.namelist.now = ap (map (λ (i : Bor Item). i.now)) c.as_slice-items.ensures.value ∙ c.in_ok-known.ensures ∙ ap₂ (λ rs ns. filter (λ (i : Item). knows_group rs i.0) ns) these c.as_slice-2.ensures in
    let most : c.max_dom-max_dom.result ≡ max_dom (rules_of c.args.registry.now) (items c.args.registry.now c.args.namelist.now) = max_is c.args.registry.now c.args.namelist.now c.as_slice-rules.result.now c.as_slice-items.result.now c.max_dom-max_dom.result these those c.max_dom-max_dom.ensures in
    let fits : FitsSigned w128 c.max_dom-max_dom.result = search rules in
    let passed : to_z w128 (of_z w128 c.max_dom-max_dom.result) ≡ max_dom (rules_of c.args.registry.now) (items c.args.registry.now c.args.namelist.now) = to_z-of_z w128 c.max_dom-max_dom.result fits ∙ most in
    let refused : c.in_ok-refused.refused ≡ in_items c.args.registry.now c.args.namelist.now = c.in_ok-refused.ensures ∙ items_fault_is c.args.registry.now c.args.namelist.now c.as_slice-rules.result.now c.as_slice-items.result.now (to_z w128 (of_z w128 c.max_dom-max_dom.result)) these those passed in
    refused_item c.args.registry.now c.args.namelist.now c.in-Some-refused.fault first (sym c.in-Some-refused.is ∙ refused)

pub returns-in-Some-missing : goal.returns-in-Some-missing
returns-in-Some-missing c =
    let table : map rule_of c.as_slice-table.result.now ≡ built_ins = ap (map rule_of) c.as_slice-table.ensures.value ∙ c.in_ok-built_ins.ensures in
    let declared : map rule_of c.as_slice.result.now ≡ registry_rules c.args.registry.now = ap (map rule_of) c.as_slice.ensures.value ∙ c.in_ok-declared.ensures in
    let wrong : c.in_ok-wrong.wrong ≡ in_declarations c.args.registry.now = c.in_ok-wrong.ensures ∙ declarations_are c.args.registry.now c.as_slice-table.result.now c.as_slice.result.now table declared in
    let first : None ≡ in_declarations c.args.registry.now = (let none : None ≡ c.in_ok-wrong.wrong = search rules in none) ∙ wrong in
    let these : map rule_of c.as_slice-rules.result.now ≡ rules_of c.args.registry.now = ap (map rule_of) c.as_slice-rules.ensures.value ∙ rules_are c.args.registry.now c.as_slice-table.result.now c.in_ok-declared.declared.items c.in_ok-all_rules.all_rules.items table c.in_ok-declared.ensures c.in_ok-all_rules.ensures in
    let those : map (λ (i : Bor Item). i.now) c.as_slice-items.result.now ≡ items c.args.registry.now c.args.namelist.now = ap (map (λ (i : Bor Item). i.now)) c.as_slice-items.ensures.value ∙ c.in_ok-known.ensures ∙ ap₂ (λ rs ns. filter (λ (i : Item). knows_group rs i.0) ns) these c.as_slice-2.ensures in
    let most : c.max_dom-max_dom.result ≡ max_dom (rules_of c.args.registry.now) (items c.args.registry.now c.args.namelist.now) = max_is c.args.registry.now c.args.namelist.now c.as_slice-rules.result.now c.as_slice-items.result.now c.max_dom-max_dom.result these those c.max_dom-max_dom.ensures in
    let fits : FitsSigned w128 c.max_dom-max_dom.result = search rules in
    let passed : to_z w128 (of_z w128 c.max_dom-max_dom.result) ≡ max_dom (rules_of c.args.registry.now) (items c.args.registry.now c.args.namelist.now) = to_z-of_z w128 c.max_dom-max_dom.result fits ∙ most in
    let refused : c.in_ok-refused.refused ≡ in_items c.args.registry.now c.args.namelist.now = c.in_ok-refused.ensures ∙ items_fault_is c.args.registry.now c.args.namelist.now c.as_slice-rules.result.now c.as_slice-items.result.now (to_z w128 (of_z w128 c.max_dom-max_dom.result)) these those passed in
    let second : None ≡ in_items c.args.registry.now c.args.namelist.now = (let none : None ≡ c.in_ok-refused.refused = search rules in none) ∙ refused in
    let domains : c.domain_count-domains.result ≡ count c.args.registry.now c.args.namelist.now = c.domain_count-domains.ensures ∙ ap (λ m. if int_le (pos 0) m then unsigned_abs m else 0) passed in
    let missing : c.in_ok-missing.missing ≡ in_defaults c.args.registry.now c.args.namelist.now = c.in_ok-missing.ensures ∙ defaults_fault_is c.args.registry.now c.args.namelist.now c.as_slice-rules.result.now c.as_slice-items.result.now c.domain_count-domains.result these those domains in
    refused_default c.args.registry.now c.args.namelist.now c.in-Some-missing.fault first second (sym c.in-Some-missing.is ∙ missing)

pub returns-in-Some-float : goal.returns-in-Some-float
returns-in-Some-float c =
    let table : map rule_of c.as_slice-table.result.now ≡ built_ins = ap (map rule_of) c.as_slice-table.ensures.value ∙ c.in_ok-built_ins.ensures in
    let declared : map rule_of c.as_slice.result.now ≡ registry_rules c.args.registry.now = ap (map rule_of) c.as_slice.ensures.value ∙ c.in_ok-declared.ensures in
    let wrong : c.in_ok-wrong.wrong ≡ in_declarations c.args.registry.now = c.in_ok-wrong.ensures ∙ declarations_are c.args.registry.now c.as_slice-table.result.now c.as_slice.result.now table declared in
    let first : None ≡ in_declarations c.args.registry.now = (let none : None ≡ c.in_ok-wrong.wrong = search rules in none) ∙ wrong in
    let these : map rule_of c.as_slice-rules.result.now ≡ rules_of c.args.registry.now = ap (map rule_of) c.as_slice-rules.ensures.value ∙ rules_are c.args.registry.now c.as_slice-table.result.now c.in_ok-declared.declared.items c.in_ok-all_rules.all_rules.items table c.in_ok-declared.ensures c.in_ok-all_rules.ensures in
    let those : map (λ (i : Bor Item). i.now) c.as_slice-items.result.now ≡ items c.args.registry.now c.args.namelist.now = ap (map (λ (i : Bor Item). i.now)) c.as_slice-items.ensures.value ∙ c.in_ok-known.ensures ∙ ap₂ (λ rs ns. filter (λ (i : Item). knows_group rs i.0) ns) these c.as_slice-2.ensures in
    let most : c.max_dom-max_dom.result ≡ max_dom (rules_of c.args.registry.now) (items c.args.registry.now c.args.namelist.now) = max_is c.args.registry.now c.args.namelist.now c.as_slice-rules.result.now c.as_slice-items.result.now c.max_dom-max_dom.result these those c.max_dom-max_dom.ensures in
    let fits : FitsSigned w128 c.max_dom-max_dom.result = search rules in
    let passed : to_z w128 (of_z w128 c.max_dom-max_dom.result) ≡ max_dom (rules_of c.args.registry.now) (items c.args.registry.now c.args.namelist.now) = to_z-of_z w128 c.max_dom-max_dom.result fits ∙ most in
    let refused : c.in_ok-refused.refused ≡ in_items c.args.registry.now c.args.namelist.now = c.in_ok-refused.ensures ∙ items_fault_is c.args.registry.now c.args.namelist.now c.as_slice-rules.result.now c.as_slice-items.result.now (to_z w128 (of_z w128 c.max_dom-max_dom.result)) these those passed in
    let second : None ≡ in_items c.args.registry.now c.args.namelist.now = (let none : None ≡ c.in_ok-refused.refused = search rules in none) ∙ refused in
    let domains : c.domain_count-domains.result ≡ count c.args.registry.now c.args.namelist.now = c.domain_count-domains.ensures ∙ ap (λ m. if int_le (pos 0) m then unsigned_abs m else 0) passed in
    let missing : c.in_ok-missing.missing ≡ in_defaults c.args.registry.now c.args.namelist.now = c.in_ok-missing.ensures ∙ defaults_fault_is c.args.registry.now c.args.namelist.now c.as_slice-rules.result.now c.as_slice-items.result.now c.domain_count-domains.result these those domains in
    let third : None ≡ in_defaults c.args.registry.now c.args.namelist.now = (let none : None ≡ c.in_ok-missing.missing = search rules in none) ∙ missing in
    let filled : c.in_ok-values.values.items ≡ values c.args.registry.now c.args.namelist.now = c.in_ok-values.ensures ∙ values_are c.args.registry.now c.args.namelist.now c.as_slice-rules.result.now c.as_slice-items.result.now c.domain_count-domains.result these those domains in
    let config : c.in_ok-config.config ≡ config_from c.args.registry.now (values c.args.registry.now c.args.namelist.now) = c.in_ok-config.ensures ∙ ap (config_from c.args.registry.now) filled in
    let float : c.in_ok-float.float ≡ in_fields c.args.registry.now c.args.namelist.now = c.in_ok-float.ensures ∙ ap (λ fs. first_fault (map float_fault fs)) (c.as_slice-3.ensures ∙ ap (λ (k : Config). k.fields) config) in
    refused_field c.args.registry.now c.args.namelist.now c.in-Some-float.fault first second third (sym c.in-Some-float.is ∙ float)

pub returns : goal.returns
returns c =
    let table : map rule_of c.as_slice-table.result.now ≡ built_ins = ap (map rule_of) c.as_slice-table.ensures.value ∙ c.in_ok-built_ins.ensures in
    let declared : map rule_of c.as_slice.result.now ≡ registry_rules c.args.registry.now = ap (map rule_of) c.as_slice.ensures.value ∙ c.in_ok-declared.ensures in
    let wrong : c.in_ok-wrong.wrong ≡ in_declarations c.args.registry.now = c.in_ok-wrong.ensures ∙ declarations_are c.args.registry.now c.as_slice-table.result.now c.as_slice.result.now table declared in
    let first : None ≡ in_declarations c.args.registry.now = (let none : None ≡ c.in_ok-wrong.wrong = search rules in none) ∙ wrong in
    let these : map rule_of c.as_slice-rules.result.now ≡ rules_of c.args.registry.now = ap (map rule_of) c.as_slice-rules.ensures.value ∙ rules_are c.args.registry.now c.as_slice-table.result.now c.in_ok-declared.declared.items c.in_ok-all_rules.all_rules.items table c.in_ok-declared.ensures c.in_ok-all_rules.ensures in
    let those : map (λ (i : Bor Item). i.now) c.as_slice-items.result.now ≡ items c.args.registry.now c.args.namelist.now = ap (map (λ (i : Bor Item). i.now)) c.as_slice-items.ensures.value ∙ c.in_ok-known.ensures ∙ ap₂ (λ rs ns. filter (λ (i : Item). knows_group rs i.0) ns) these c.as_slice-2.ensures in
    let most : c.max_dom-max_dom.result ≡ max_dom (rules_of c.args.registry.now) (items c.args.registry.now c.args.namelist.now) = max_is c.args.registry.now c.args.namelist.now c.as_slice-rules.result.now c.as_slice-items.result.now c.max_dom-max_dom.result these those c.max_dom-max_dom.ensures in
    let fits : FitsSigned w128 c.max_dom-max_dom.result = search rules in
    let passed : to_z w128 (of_z w128 c.max_dom-max_dom.result) ≡ max_dom (rules_of c.args.registry.now) (items c.args.registry.now c.args.namelist.now) = to_z-of_z w128 c.max_dom-max_dom.result fits ∙ most in
    let refused : c.in_ok-refused.refused ≡ in_items c.args.registry.now c.args.namelist.now = c.in_ok-refused.ensures ∙ items_fault_is c.args.registry.now c.args.namelist.now c.as_slice-rules.result.now c.as_slice-items.result.now (to_z w128 (of_z w128 c.max_dom-max_dom.result)) these those passed in
    let second : None ≡ in_items c.args.registry.now c.args.namelist.now = (let none : None ≡ c.in_ok-refused.refused = search rules in none) ∙ refused in
    let domains : c.domain_count-domains.result ≡ count c.args.registry.now c.args.namelist.now = c.domain_count-domains.ensures ∙ ap (λ m. if int_le (pos 0) m then unsigned_abs m else 0) passed in
    let missing : c.in_ok-missing.missing ≡ in_defaults c.args.registry.now c.args.namelist.now = c.in_ok-missing.ensures ∙ defaults_fault_is c.args.registry.now c.args.namelist.now c.as_slice-rules.result.now c.as_slice-items.result.now c.domain_count-domains.result these those domains in
    let third : None ≡ in_defaults c.args.registry.now c.args.namelist.now = (let none : None ≡ c.in_ok-missing.missing = search rules in none) ∙ missing in
    let filled : c.in_ok-values.values.items ≡ values c.args.registry.now c.args.namelist.now = c.in_ok-values.ensures ∙ values_are c.args.registry.now c.args.namelist.now c.as_slice-rules.result.now c.as_slice-items.result.now c.domain_count-domains.result these those domains in
    let config : c.in_ok-config.config ≡ config_from c.args.registry.now (values c.args.registry.now c.args.namelist.now) = c.in_ok-config.ensures ∙ ap (config_from c.args.registry.now) filled in
    let float : c.in_ok-float.float ≡ in_fields c.args.registry.now c.args.namelist.now = c.in_ok-float.ensures ∙ ap (λ fs. first_fault (map float_fault fs)) (c.as_slice-3.ensures ∙ ap (λ (k : Config). k.fields) config) in
    let fourth : None ≡ in_fields c.args.registry.now c.args.namelist.now = (let none : None ≡ c.in_ok-float.float = search rules in none) ∙ float in
    accepted c.args.registry.now c.args.namelist.now _ first second third fourth config
