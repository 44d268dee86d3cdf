use Rattle.std.proofs.Common.{sym, ap, ◌∙◌}
use Rattle.std.specs.Option.{option_copied}
use Rattle.wf_plan_fields.specs.IoParts.{letter_of, named_in, part_of}
use Rattle.wf_plan_fields.specs.LevelFields.{is_for, usual_of}
use Rattle.wf_plan_fields.proofs.Functions.{function_none, function_some}
use Rattle.wf_plan_fields.proofs.hooks.hook_id.Goals as goal

pub returns-in-Some : goal.returns-in-Some
returns-in-Some c =
    function_some part_of (letter_of c.args.purpose) (usual_of c.args.purpose) c.args.hooks.now (is_for c.args.purpose) c.args.parts.now c.in-Some.part.now c.named_in.result.now (option_copied c.find_hook.result) c.id_of.result
    (sym c.last_fed.ensures ∙ ap option_copied c.in-Some.is)
    (c.named_in.ensures ∙ ap (λ usual. named_in usual (part_of c.in-Some.part.now)) c.usual_of.ensures)
    c.find_hook.ensures c.id_of.ensures

pub returns-in-None : goal.returns-in-None
returns-in-None c =
    function_none part_of (letter_of c.args.purpose) (usual_of c.args.purpose) c.args.hooks.now (is_for c.args.purpose) c.args.parts.now (sym c.last_fed.ensures ∙ ap option_copied c.in-None.is)
