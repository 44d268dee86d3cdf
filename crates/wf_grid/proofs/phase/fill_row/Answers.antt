use Rattle.std.proofs.Common.{◌+◌, ◌<◌, set, length-set, sym, subst, ◌∙◌, arith, rules}
use Rattle.std.proofs.lemmas.Int.{to_z-of_z}
use Rattle.std.specs.Prelude.{ℤ, FitsSigned}
use mir.Syntax.{w32}
use Rattle.wf_model.specs.Plans.{nx, ny}
use Rattle.wf_grid.specs.Levels.{place_in}
use Rattle.wf_grid.specs.Filled.{IsFilled}
use Rattle.wf_grid.proofs.RowFilling.{start_is, row_place, row_more, row_stops}
use Rattle.wf_grid.proofs.phase.fill_row.Goals as goal

pub bounds-scratch-start : goal.bounds-scratch-start
bounds-scratch-start g c =
    let old = c.args.old.now in
    let f = c.args.phase.now.writes in
    let h : c.loop-x.x < nx old.plan.now old.number f = omega (arith, c.requires.extents.columns) in
    let start = start_is old.plan.now old.number f c.args.k c.args.j c.place-start.result c.args.extents c.requires.extents c.place-start.ensures.value in
    let place = row_place old.plan.now old.number f c.args.k c.args.j c.loop-x.x c.requires.in_z c.requires.in_y h in
    omega (arith, start, place, c.loop-x.invariant.size)

pub returns-in-None-clause-stopped : goal.returns-in-None-clause-stopped
returns-in-None-clause-stopped g c =
    let old = c.args.old.now in
    let h : c.loop-x.x < nx old.plan.now old.number c.args.phase.now.writes = omega (arith, c.requires.extents.columns) in
    row_stops old.plan.now g.M.Meanings.answer old.number old.levels.now old.step c.args.phase.now c.args.k c.args.j c.loop-x.x c.loop-x.scratch c.requires.in_z c.requires.in_y h c.loop-x.invariant.filled
    (sym c.number_after.ensures ∙ c.in-None.is)

pub loop-x-preserved : goal.loop-x-preserved
loop-x-preserved g c =
    let old = c.args.old.now in
    let f = c.args.phase.now.writes in
    let h : c.loop-x.x < nx old.plan.now old.number f = omega (arith, c.requires.extents.columns) in
    let fits : FitsSigned w32 c.in-Some.value = search rules in
    let start = start_is old.plan.now old.number f c.args.k c.args.j c.place-start.result c.args.extents c.requires.extents c.place-start.ensures.value in
    record {
      size = length-set c.loop-x.scratch (c.place-start.result + c.loop-x.x) _ ∙ c.loop-x.invariant.size;
      filled = subst (λ (z : ℤ). IsFilled old.plan.now g.M.Meanings.answer old.number old.levels.now old.step c.args.phase.now (place_in (ny old.plan.now old.number f) (nx old.plan.now old.number f) c.args.k c.args.j 1 + (c.loop-x.x + 1)) (set c.loop-x.scratch (c.place-start.result + c.loop-x.x) z)) (sym (to_z-of_z w32 c.in-Some.value fits))
          (row_more old.plan.now g.M.Meanings.answer old.number old.levels.now old.step c.args.phase.now c.args.k c.args.j c.loop-x.x c.loop-x.scratch c.requires.in_z c.requires.in_y h c.loop-x.invariant.filled
          c.place-start.result c.in-Some.value start c.loop-x.invariant.size (sym c.number_after.ensures ∙ c.in-Some.is));
    }
