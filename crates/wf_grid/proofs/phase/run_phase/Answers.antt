use Rattle.std.proofs.Common.{◌≡◌, ◌∙◌, None, ap, arith, false}
use Rattle.std.specs.Prelude.{Option, is_some, not}
use Rattle.wf_grid.specs.declared.extents.Here.{Here}
use Rattle.wf_grid.proofs.PhaseResult.{names, sets}
use Rattle.wf_grid.proofs.phase.run_phase.Goals as goal

nothing : (r : Option Here) → is_some r ≡ false → r ≡ None
nothing r e = grind arith

pub returns-then-is_none-clause-point : goal.returns-then-is_none-clause-point
returns-then-is_none-clause-point g c =
    names c.args.plan.now g.M.Meanings.answer c.args.number c.args.levels.now c.args.step c.args.phase.now c.fill-overflow.result c.fill-overflow.new.scratch c.requires.runnable.writes c.fill-overflow.ensures.length c.fill-overflow.ensures.done c.fill-overflow.ensures.stopped

pub returns-then-is_none-clause-lists : goal.returns-then-is_none-clause-lists
returns-then-is_none-clause-lists g c =
    let none : c.fill-overflow.result ≡ None = nothing c.fill-overflow.result (c.is_none.ensures ∙ ap not c.if-is_none.true) in
    sets c.args.plan.now g.M.Meanings.answer c.args.number c.args.levels.now c.args.step c.args.phase.now c.fill-overflow.result c.fill-overflow.new.scratch c.requires.runnable.writes c.fill-overflow.ensures.length c.fill-overflow.ensures.done c.requires.lists none c.commit.new.levels c.commit.ensures

pub returns-else-is_none-clause-point : goal.returns-else-is_none-clause-point
returns-else-is_none-clause-point g c =
    names c.args.plan.now g.M.Meanings.answer c.args.number c.args.levels.now c.args.step c.args.phase.now c.fill-overflow.result c.fill-overflow.new.scratch c.requires.runnable.writes c.fill-overflow.ensures.length c.fill-overflow.ensures.done c.fill-overflow.ensures.stopped
