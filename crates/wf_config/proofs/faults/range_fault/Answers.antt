use Rattle.std.proofs.Common.{◌≡◌, ◌+◌, map, drop, sym, rules}
use Rattle.std.specs.List.{enumerate_from}
use Rattle.wf_model.specs.Reading.{first_fault}
use Rattle.wf_config.specs.Rules.{judged_fault, rule_of}
use Rattle.wf_config.proofs.FirstFaults.{met_numbered}
use Rattle.wf_config.proofs.faults.range_fault.Goals as goal

pub returns-then-is_some : goal.returns-then-is_some
returns-then-is_some c =
    let here : c.in_ok-fault.fault ≡ judged_fault c.args.domains (rule_of c.args.rule.now) (c.loop-i.i + 1, c.index-values-i.result) = search rules in
    let so_far : first_fault (map (judged_fault c.args.domains (rule_of c.args.rule.now)) (enumerate_from (c.loop-i.i + 1) (drop c.loop-i.i c.args.values.now))) ≡ first_fault (map (judged_fault c.args.domains (rule_of c.args.rule.now)) (enumerate_from 1 c.args.values.now)) = search rules in
    met_numbered (judged_fault c.args.domains (rule_of c.args.rule.now)) c.args.values.now c.loop-i.i c.index-values-i.result c.in_ok-fault.fault _ c.loop-i-test.true c.index-values-i.is here (sym c.if-is_some.ensures) so_far
