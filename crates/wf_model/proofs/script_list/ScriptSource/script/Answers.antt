use Rattle.std.proofs.Common.{◌*◌, ◌++◌, [], length, ap, ◌∙◌}
use Rattle.std.specs.Prelude.{flat_map, if◌then◌else◌}
use Rattle.std.specs.List.{range_with_len}
use Rattle.wf_model.specs.Plans.{begin_of, domain_of}
use Rattle.wf_model.specs.Script.{script_of, start_frames, step_of}
use Rattle.wf_model.proofs.script_list.ScriptSource.script.Goals as goal

pub returns : goal.returns
unfolding script_of
returns c =
    let plan = c.args.self.now.plan.now in
    let begins = c.args.self.now.begins.now in
    c.in_ok-push_steps.ensures
    ∙ ap (λ ys. ys ++ flat_map (λ n. step_of plan begins (length plan.domains) 1 (n * (domain_of plan 1).seconds)) (range_with_len 0 plan.steps))
    (c.in_ok-push_first_start.ensures ∙ ap (λ ys. ys ++ (if (begin_of begins 1).resumed then [] else start_frames plan begins 1 0)) c.new-entries.ensures.items)
