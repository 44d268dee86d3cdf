use Rattle.std.proofs.Common.{◌≡◌, ◌-◌, ◌++◌, map}
use Rattle.std.specs.Prelude.{filter, nat_lt, ◌||◌}
use Rattle.std.specs.List.{range_with_len}
use Rattle.wf_model.specs.declared.script.Act.TheVariants.{Emit}
use Rattle.wf_model.specs.Plans.{begin_of}
use Rattle.wf_model.specs.Script.{begin_time, entry, restart_stream, steps_by}
use Rattle.wf_model.proofs.script_list.ScriptSource.push_restart_frames.Given as goal

abbrev pub invariant-loop-domain : goal.invariant-loop-domain
invariant-loop-domain l =
    l.entries.items ≡ l.initial.entries.items ++ map (λ d. entry d (steps_by l.self.plan.now l.self.begins.now d l.time) l.time (Emit restart_stream))
    (filter (λ d. (begin_of l.self.begins.now d).resumed || nat_lt (begin_time l.self.plan.now l.self.begins.now d) l.time) (range_with_len 1 (l.domain - 1)))
