use Rattle.std.proofs.Common.{◌≡◌, ◌+◌, ◌++◌, length, map}
use Rattle.std.specs.List.{range_with_len}
use Rattle.wf_model.specs.Config.{missing_value}
use Rattle.wf_config.specs.Rules.{rule_of}
use Rattle.wf_config.proofs.values.filled_values.Given as goal

abbrev pub invariant-loop-k : goal.invariant-loop-k
invariant-loop-k l = l.values.items ≡ l.given ++ map (missing_value (rule_of l.rule) l.given) (range_with_len (length l.given + 1) l.k)
