use Rattle.std.proofs.Common.{List, ℕ, [], Bor, map, ap, ◌∙◌}
use Rattle.wf_model.specs.Groups.{groups_of}
use Rattle.wf_model.specs.NamesOf.{group_parts, period_part}
use Rattle.wf_config.proofs.Loops.{joined_all}
use Rattle.wf_config.proofs.table_names.period_parts.Goals as goal

pub returns : goal.returns
returns c =
    joined_all (group_parts period_part c.args.levels.now) (λ (w : Bor (List ℕ)). w.now) [] c.loop-group.made.items c.as_slice-group-items.result.now (groups_of c.args.groups.now) c.loop-group.group-index c.loop-group-test.false
    (ap (map (λ (w : Bor (List ℕ)). w.now)) c.as_slice-group-items.ensures.value ∙ c.in_ok-groups.ensures) c.loop-group.invariant
