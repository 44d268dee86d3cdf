use Rattle.std.proofs.Common.{ap, ◌∙◌, arith}
use Rattle.std.specs.Prelude.{nat_lt, ◌||◌}
use Rattle.wf_model.specs.declared.script.Act.TheVariants.{Emit}
use Rattle.wf_model.specs.Plans.{begin_of}
use Rattle.wf_model.specs.Script.{begin_time, entry, restart_stream, steps_by}
use Rattle.wf_model.proofs.RangeParts.{added_if_from_one}
use Rattle.wf_model.proofs.script_list.ScriptSource.push_restart_frames.Goals as goal

pub loop-domain-preserved : goal.loop-domain-preserved
loop-domain-preserved c =
    let plan = c.args.self.now.plan.now in
    let begins = c.args.self.now.begins.now in
    added_if_from_one (λ d. (begin_of begins d).resumed || nat_lt (begin_time plan begins d) c.args.time) (λ d. entry d (steps_by plan begins d c.args.time) c.args.time (Emit restart_stream)) c.loop-domain.domain _ _ _ _ _
    (omega arith) c.is_there.ensures (c.entry_of-frame.ensures ∙ ap (λ n. entry c.loop-domain.domain n c.args.time (Emit restart_stream)) c.steps_behind-steps.ensures.value) c.loop-domain.invariant c.in_ok-push_if.ensures
