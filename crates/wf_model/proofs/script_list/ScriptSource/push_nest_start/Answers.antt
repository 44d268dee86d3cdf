use Rattle.std.proofs.Common.{◌++◌, ◌∷◌, [], ap, ◌∙◌, sym}
use Rattle.std.proofs.lemmas.Result.{on_ok_weaker}
use Rattle.wf_model.specs.declared.script.Act.TheVariants.{Start}
use Rattle.wf_model.specs.declared.script.Entry.{Entry}
use Rattle.wf_model.specs.Script.{entry, start_frames}
use Rattle.wf_model.specs.ScriptParts.{nest_start}
use Rattle.wf_model.proofs.RangeParts.{added}
use Rattle.wf_model.proofs.ScriptLaws.{no_start, no_start_yet, start_is}
use Rattle.wf_model.proofs.script_list.ScriptSource.push_nest_start.Goals as goal

pub returns-then-not-is_nest : goal.returns-then-not-is_nest
returns-then-not-is_nest c = no_start c.args.self.now.plan.now c.args.self.now.begins.now c.args.number c.args.time c.args.nest c.args.entries.now.items (sym c.if-not-is_nest.ensures)

pub returns-then-not-is_starting : goal.returns-then-not-is_starting
returns-then-not-is_starting c = no_start_yet c.args.self.now.plan.now c.args.self.now.begins.now c.args.number c.args.time c.args.nest c.args.entries.now.items (sym c.if-not-is_starting.ensures)

pub returns : goal.returns
returns c =
    let plan = c.args.self.now.plan.now in
    let begins = c.args.self.now.begins.now in
    let nest = c.args.nest in
    on_ok_weaker c.push_start_frames.result
    (λ frames. added _ (entry nest 0 c.args.time Start ∷ []) (start_frames plan begins nest c.args.time) (nest_start plan begins c.args.number c.args.time nest) _ _ (c.in_ok-push.ensures.items ∙ ap (λ (e : Entry). c.args.entries.now.items ++ e ∷ []) c.entry_of.ensures) frames
    (start_is plan begins c.args.number c.args.time nest (sym c.if-not-is_nest.ensures) (sym c.if-not-is_starting.ensures)))
    c.push_start_frames.ensures
