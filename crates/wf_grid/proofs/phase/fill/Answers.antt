use Rattle.std.proofs.Common.{◌≡◌, ◌∙◌, ap, arith}
use Rattle.wf_model.specs.declared.plan.Field.{Field}
use Rattle.wf_model.specs.Plans.{nz}
use Rattle.wf_grid.proofs.RowFilling.{level_ends}
use Rattle.wf_grid.proofs.phase.fill.Goals as goal

pub returns-clause-done : goal.returns-clause-done
returns-clause-done g c none =
    let levels : c.extents-extents.result.levels ≡ nz c.args.plan.now c.args.phase.now.writes = c.extents-extents.ensures.levels ∙ ap (λ (x : Field). x.nz) c.level.ensures in
    let all : c.loop-z.z ≡ nz c.args.plan.now c.args.phase.now.writes = omega (arith, levels) in
    level_ends c.args.plan.now g.M.Meanings.answer c.args.number c.args.levels.now c.args.step c.args.phase.now c.loop-z.scratch c.loop-z.z all c.loop-z.invariant.size c.loop-z.invariant.filled
