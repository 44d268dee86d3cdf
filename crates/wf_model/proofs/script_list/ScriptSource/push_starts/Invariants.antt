use Rattle.std.proofs.Common.{◌≡◌, ◌-◌, ◌++◌}
use Rattle.std.specs.Prelude.{flat_map}
use Rattle.std.specs.List.{range_with_len}
use Rattle.wf_model.specs.ScriptParts.{nest_start}
use Rattle.wf_model.proofs.script_list.ScriptSource.push_starts.Given as goal

abbrev pub invariant-loop-nest : goal.invariant-loop-nest
invariant-loop-nest l =
    l.entries.items ≡ l.initial.entries.items ++ flat_map (nest_start l.self.plan.now l.self.begins.now l.number l.time) (range_with_len 1 (l.nest - 1))
