use Rattle.std.proofs.Common.{◌≡◌, ◌+◌, ◌-◌, ◌*◌, ◌++◌}
use Rattle.std.specs.Prelude.{flat_map}
use Rattle.std.specs.List.{range_with_len}
use Rattle.wf_model.specs.Plans.{domain_of}
use Rattle.wf_model.specs.Script.{step_of}
use Rattle.wf_model.specs.ScriptParts.{nest_step}
use Rattle.wf_model.proofs.script_list.ScriptSource.+step.Given as goal

abbrev pub decreases-push_step : goal.decreases-push_step
decreases-push_step l = 4 * l.depth

abbrev pub decreases-push_nest_steps : goal.decreases-push_nest_steps
decreases-push_nest_steps l = 4 * l.depth + 1

abbrev pub decreases-push_nest : goal.decreases-push_nest
decreases-push_nest l = 4 * l.depth + 2

abbrev pub decreases-push_nests : goal.decreases-push_nests
decreases-push_nests l = 4 * l.depth + 3

abbrev pub invariant-push_nests-loop-nest : goal.invariant-push_nests-loop-nest
invariant-push_nests-loop-nest l =
    l.entries.items ≡ l.initial.entries.items ++ flat_map (nest_step l.self.plan.now l.self.begins.now l.depth l.number l.step l.time) (range_with_len 1 (l.nest - 1))

abbrev pub invariant-push_nest_steps-loop-n : goal.invariant-push_nest_steps-loop-n
invariant-push_nest_steps-loop-n l =
    l.entries.items ≡ l.initial.entries.items ++ flat_map (λ n. step_of l.self.plan.now l.self.begins.now l.depth l.nest (l.time + n * (domain_of l.self.plan.now l.nest).seconds)) (range_with_len 0 l.n)
