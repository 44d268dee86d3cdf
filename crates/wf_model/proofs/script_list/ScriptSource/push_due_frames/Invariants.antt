use Rattle.std.proofs.Common.{◌≡◌, ◌++◌, map}
use Rattle.std.specs.Prelude.{filter}
use Rattle.std.specs.List.{range_with_len}
use Rattle.wf_model.specs.declared.script.Act.TheVariants.{Emit}
use Rattle.wf_model.specs.Script.{entry, interval, is_due}
use Rattle.wf_model.proofs.script_list.ScriptSource.push_due_frames.Given as goal

abbrev pub invariant-loop-stream : goal.invariant-loop-stream
invariant-loop-stream l =
    l.entries.items ≡ l.initial.entries.items ++ map (λ s. entry l.number l.step l.time (Emit s)) (filter (λ s. is_due (interval l.self.plan.now l.self.begins.now l.number s) l.step) (range_with_len 0 l.stream))
