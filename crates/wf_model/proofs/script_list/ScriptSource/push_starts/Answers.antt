use Rattle.std.proofs.Common.{◌≡◌, ◌+◌, ◌-◌, ◌++◌, length, ap, sym, ◌∙◌, arith}
use Rattle.std.specs.Prelude.{flat_map}
use Rattle.std.specs.List.{range_with_len}
use Rattle.wf_model.specs.ScriptParts.{nest_start}
use Rattle.wf_model.proofs.RangeParts.{added, all_from_one, parts_from_one}
use Rattle.wf_model.proofs.ScriptLaws.{starts_parts}
use Rattle.wf_model.proofs.script_list.ScriptSource.push_starts.Goals as goal

pub loop-nest-preserved : goal.loop-nest-preserved
loop-nest-preserved c =
    let start = nest_start c.args.self.now.plan.now c.args.self.now.begins.now c.args.number c.args.time in
    let nest = c.loop-nest.nest in
    added _ (flat_map start (range_with_len 1 (nest - 1))) (start nest) (flat_map start (range_with_len 1 (nest + 1 - 1))) _ _ c.loop-nest.invariant c.in_ok-push_nest_start.ensures (parts_from_one start nest (omega arith))

pub returns : goal.returns
returns c =
    let plan = c.args.self.now.plan.now in
    let begins = c.args.self.now.begins.now in
    let start = nest_start plan begins c.args.number c.args.time in
    let past : c.loop-nest.nest ≡ length plan.domains + 1 = omega (arith, c.domain_count-nest-end.ensures) in
    c.loop-nest.invariant
    ∙ ap (λ ys. c.args.entries.now.items ++ ys)
    (all_from_one (flat_map start) c.loop-nest.nest (length plan.domains) past ∙ sym (starts_parts plan begins c.args.number c.args.time))
