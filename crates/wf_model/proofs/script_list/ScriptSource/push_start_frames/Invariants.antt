use Rattle.std.proofs.Common.{◌≡◌, ◌++◌, map}
use Rattle.std.specs.Prelude.{filter, nat_lt}
use Rattle.std.specs.List.{range_with_len}
use Rattle.wf_model.specs.declared.script.Act.TheVariants.{Emit}
use Rattle.wf_model.specs.Script.{entry, interval}
use Rattle.wf_model.proofs.script_list.ScriptSource.push_start_frames.Given as goal

abbrev pub invariant-loop-stream : goal.invariant-loop-stream
invariant-loop-stream l =
    l.entries.items ≡ l.initial.entries.items ++ map (λ s. entry l.number 0 l.time (Emit s)) (filter (λ s. nat_lt 0 (interval l.self.plan.now l.self.begins.now l.number s)) (range_with_len 0 l.stream))
