use Rattle.std.proofs.Common.{◌≡◌, ◌*◌, ◌++◌, length}
use Rattle.std.specs.Prelude.{flat_map}
use Rattle.std.specs.List.{range_with_len}
use Rattle.wf_model.specs.Plans.{domain_of}
use Rattle.wf_model.specs.Script.{step_of}
use Rattle.wf_model.proofs.script_list.ScriptSource.push_steps.Given as goal

abbrev pub invariant-loop-n : goal.invariant-loop-n
invariant-loop-n l =
    l.entries.items ≡ l.initial.entries.items ++ flat_map (λ n. step_of l.self.plan.now l.self.begins.now (length l.self.plan.now.domains) 1 (n * (domain_of l.self.plan.now 1).seconds)) (range_with_len 0 l.n)
