use Rattle.std.proofs.Common.{◌≡◌, ◌+◌, ◌-◌, ◌*◌, ◌++◌, ◌∷◌, [], length, ℕ, ap, sym, ◌∙◌, arith}
use Rattle.std.proofs.lemmas.List.{append-nil}
use Rattle.std.proofs.lemmas.Result.{on_ok_weaker}
use Rattle.std.specs.Prelude.{flat_map, ◌==◌, if◌then◌else◌}
use Rattle.std.specs.List.{range_with_len}
use Rattle.wf_model.specs.declared.plan.Domain.{Domain}
use Rattle.wf_model.specs.declared.script.Entry.{Entry}
use Rattle.wf_model.specs.declared.script.Act.TheVariants.{Force, Feedback}
use Rattle.wf_model.specs.Plans.{domain_of, domains_of}
use Rattle.wf_model.specs.Script.{due_frames, entry, restart_frames, starts, step_of, table}
use Rattle.wf_model.specs.ScriptParts.{nest_step}
use Rattle.wf_model.proofs.RangeParts.{added, all_from_one, parts_from_one, parts_more}
use Rattle.wf_model.proofs.ScriptLaws.{five_parts, nest_step_is, no_nest_step, no_nest_step_yet, no_step, three_parts, whole_step}
use Rattle.wf_model.proofs.script_list.ScriptSource.+step.Goals as goal

pub push_step-returns-then-depth-eq0 : goal.push_step-returns-then-depth-eq0
push_step-returns-then-depth-eq0 t c =
    sym (append-nil c.args.entries.now.items)
    ∙ ap (λ ys. c.args.entries.now.items ++ ys) (sym (no_step c.args.self.now.plan.now c.args.self.now.begins.now c.args.depth c.args.number c.args.time c.if-depth-eq0.true))

pub push_step-returns : goal.push_step-returns
push_step-returns t c =
    let plan = c.args.self.now.plan.now in
    let begins = c.args.self.now.begins.now in
    let d = c.args.number in
    let step = c.steps_behind-step.result + 1 in
    let end = c.args.time + c.domain.result.now.seconds in
    on_ok_weaker c.push_restart_frames.result
    (λ restarts. five_parts _ _ _ _ _ _ (starts plan begins d c.args.time) (table plan begins d step c.args.time) (flat_map (nest_step plan begins (c.args.depth - 1) d step c.args.time) (domains_of plan))
    (due_frames plan begins d step end) (if d == 1 then restart_frames plan begins step end else []) (step_of plan begins c.args.depth d c.args.time)
    c.in_ok-push_starts.ensures c.in_ok-push_table.ensures c.in_ok-push_nests.ensures c.in_ok-push_due_frames.ensures restarts
    (whole_step plan begins c.args.depth d c.args.time step end (omega arith) (ap (λ n. n + 1) c.steps_behind-step.ensures.value) (ap (λ (x : Domain). c.args.time + x.seconds) c.domain.ensures)))
    c.push_restart_frames.ensures

pub push_nests-returns : goal.push_nests-returns
push_nests-returns t c =
    let plan = c.args.self.now.plan.now in
    let past : c.loop-nest.nest ≡ length plan.domains + 1 = omega (arith, c.domain_count-nest-end.ensures) in
    c.loop-nest.invariant
    ∙ ap (λ ys. c.args.entries.now.items ++ ys)
    (all_from_one (flat_map (nest_step plan c.args.self.now.begins.now c.args.depth c.args.number c.args.step c.args.time)) c.loop-nest.nest (length plan.domains) past)

pub push_nests-loop-nest-preserved : goal.push_nests-loop-nest-preserved
push_nests-loop-nest-preserved t c =
    let plan = c.args.self.now.plan.now in
    let part = nest_step plan c.args.self.now.begins.now c.args.depth c.args.number c.args.step c.args.time in
    let nest = c.loop-nest.nest in
    added _ (flat_map part (range_with_len 1 (nest - 1))) (part nest) (flat_map part (range_with_len 1 (nest + 1 - 1))) _ _ c.loop-nest.invariant c.in_ok-push_nest.ensures (parts_from_one part nest (omega arith))

pub push_nest-returns-then-not-is_nest : goal.push_nest-returns-then-not-is_nest
push_nest-returns-then-not-is_nest t c =
    no_nest_step c.args.self.now.plan.now c.args.self.now.begins.now c.args.depth c.args.number c.args.step c.args.time c.args.nest c.args.entries.now.items (sym c.if-not-is_nest.ensures)

pub push_nest-returns-then-not-has_started : goal.push_nest-returns-then-not-has_started
push_nest-returns-then-not-has_started t c =
    no_nest_step_yet c.args.self.now.plan.now c.args.self.now.begins.now c.args.depth c.args.number c.args.step c.args.time c.args.nest c.args.entries.now.items (sym c.if-not-has_started.ensures)

pub push_nest-returns : goal.push_nest-returns
push_nest-returns t c =
    let plan = c.args.self.now.plan.now in
    let begins = c.args.self.now.begins.now in
    let nest = c.args.nest in
    let number = c.steps_behind-own_step.result + 1 in
    on_ok_weaker c.push_if.result
    (λ feedback. three_parts _ _ _ _ (entry nest number c.args.time Force)
    (flat_map (λ n. step_of plan begins c.args.depth nest (c.args.time + n * (domain_of plan nest).seconds)) (range_with_len 0 (domain_of plan nest).time_ratio))
    (if plan.feedback then entry nest c.args.step c.args.time Feedback ∷ [] else []) (nest_step plan begins c.args.depth c.args.number c.args.step c.args.time nest)
    (c.in_ok-push.ensures.items ∙ ap (λ (e : Entry). c.args.entries.now.items ++ e ∷ []) c.entry_of.ensures) c.in_ok-push_nest_steps.ensures
    (feedback ∙ ap (λ (e : Entry). c.push_nest_steps.new.entries.items ++ (if plan.feedback then e ∷ [] else [])) c.entry_of-feedback.ensures)
    (nest_step_is plan begins c.args.depth c.args.number c.args.step c.args.time nest number (sym c.if-not-is_nest.ensures) (sym c.if-not-has_started.ensures) (ap (λ n. n + 1) c.steps_behind-own_step.ensures.value)))
    c.push_if.ensures

pub push_nest_steps-loop-n-preserved : goal.push_nest_steps-loop-n-preserved
push_nest_steps-loop-n-preserved t c =
    let plan = c.args.self.now.plan.now in
    let begins = c.args.self.now.begins.now in
    let step = λ (n : ℕ). step_of plan begins c.args.depth c.args.nest (c.args.time + n * (domain_of plan c.args.nest).seconds) in
    let n = c.loop-n.n in
    added _ (flat_map step (range_with_len 0 n)) (step n) (flat_map step (range_with_len 0 (n + 1))) _ _ c.loop-n.invariant
    (c.in_ok-push_step.ensures ∙ ap (λ (x : Domain). c.loop-n.entries.items ++ step_of plan begins c.args.depth c.args.nest (c.args.time + n * x.seconds)) c.domain.ensures)
    (parts_more step 0 n n (omega arith))
