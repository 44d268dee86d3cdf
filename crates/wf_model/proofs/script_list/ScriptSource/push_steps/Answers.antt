use Rattle.std.proofs.Common.{ℕ, ◌+◌, ◌*◌, ◌++◌, length, ap, ◌∙◌, arith}
use Rattle.std.specs.Prelude.{flat_map}
use Rattle.std.specs.List.{range_with_len}
use Rattle.wf_model.specs.declared.plan.Domain.{Domain}
use Rattle.wf_model.specs.Plans.{domain_of}
use Rattle.wf_model.specs.Script.{step_of}
use Rattle.wf_model.proofs.RangeParts.{added, parts_more}
use Rattle.wf_model.proofs.script_list.ScriptSource.push_steps.Goals as goal

pub loop-n-preserved : goal.loop-n-preserved
loop-n-preserved c =
    let plan = c.args.self.now.plan.now in
    let begins = c.args.self.now.begins.now in
    let step = λ (n : ℕ). step_of plan begins (length plan.domains) 1 (n * (domain_of plan 1).seconds) in
    let n = c.loop-n.n in
    added _ (flat_map step (range_with_len 0 n)) (step n) (flat_map step (range_with_len 0 (n + 1))) _ _ c.loop-n.invariant
    (c.in_ok-push_step.ensures
    ∙ ap (λ k. c.loop-n.entries.items ++ step_of plan begins k 1 (n * c.domain.result.now.seconds)) c.domain_count.ensures
    ∙ ap (λ (x : Domain). c.loop-n.entries.items ++ step_of plan begins (length plan.domains) 1 (n * x.seconds)) c.domain.ensures)
    (parts_more step 0 n n (omega arith))
