use Rattle.std.proofs.Common.{◌≡◌, ◌∙◌, ◌<◌, ◌≤◌, length, Bor, map, ap, arith}
use Rattle.wf_model.specs.Reading.{first_fault}
use Rattle.wf_model.specs.Config.{given, missing_values, out_of_range}
use Rattle.wf_model.specs.Namelist.{Item}
use Rattle.wf_config.specs.Rules.{rule_of, wanted}
use Rattle.wf_config.proofs.Judgements.{none_missing, some_missing}
use Rattle.wf_config.proofs.faults.default_fault.Goals as goal

pub returns-then-wanted-given : goal.returns-then-wanted-given
returns-then-wanted-given c =
    let values : c.given-given.result.now ≡ given (map (λ (i : Bor Item). i.now) c.args.items.now) c.args.rule.now.group c.args.rule.now.name = cc (c.given-given.ensures, c.as_slice.ensures, c.as_slice-2.ensures.value) in
    let enough : wanted c.args.domains (rule_of c.args.rule.now) ≤ length c.given-given.result.now = omega (arith, c.wanted.ensures) in
    none_missing c.args.domains (rule_of c.args.rule.now) c.given-given.result.now enough
    ∙ ap (λ vs. first_fault (map (out_of_range (rule_of c.args.rule.now)) (missing_values c.args.domains (rule_of c.args.rule.now) vs))) values

pub returns : goal.returns
returns c =
    let values : c.given-given.result.now ≡ given (map (λ (i : Bor Item). i.now) c.args.items.now) c.args.rule.now.group c.args.rule.now.name = cc (c.given-given.ensures, c.as_slice.ensures, c.as_slice-2.ensures.value) in
    let few : length c.given-given.result.now < wanted c.args.domains (rule_of c.args.rule.now) = omega (arith, c.wanted.ensures) in
    some_missing c.args.domains (rule_of c.args.rule.now) c.given-given.result.now c.in_ok-fault.fault few c.in_ok-fault.ensures
    ∙ ap (λ vs. first_fault (map (out_of_range (rule_of c.args.rule.now)) (missing_values c.args.domains (rule_of c.args.rule.now) vs))) values
