use Rattle.std.proofs.Common.{◌≡◌, ◌+◌, map, drop}
use Rattle.std.specs.List.{enumerate_from}
use Rattle.wf_model.specs.Reading.{first_fault}
use Rattle.wf_config.specs.Rules.{judged_fault, rule_of}
use Rattle.wf_config.proofs.faults.range_fault.Given as goal

abbrev pub invariant-loop-i : goal.invariant-loop-i
invariant-loop-i l = first_fault (map (judged_fault l.domains (rule_of l.rule)) (enumerate_from (l.i + 1) (drop l.i l.values))) ≡ first_fault (map (judged_fault l.domains (rule_of l.rule)) (enumerate_from 1 l.values))
