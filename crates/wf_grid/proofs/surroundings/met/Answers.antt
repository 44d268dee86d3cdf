use Rattle.std.proofs.Common.{ap}
use Rattle.std.proofs.lemmas.Int.{to_z-of_z}
use Rattle.std.specs.Prelude.{ℤ, pos, ◌+ℤ◌}
use mir.Syntax.{w32}
use Rattle.wf_grid.proofs.Meeting.{inside_x, inside_y}
use Rattle.wf_grid.proofs.surroundings.met.Goals as goal

pub wrapped_place-i-requires-clause-inside : goal.wrapped_place-i-requires-clause-inside
wrapped_place-i-requires-clause-inside c =
    let at = c.args.at.now in
    inside_x at.old.now.plan.now at.old.now.number c.args.field (pos at.here.j +ℤ c.args.dj) (pos at.here.i +ℤ c.args.di) _ _ _
    c.requires.x c.size_at-size.ensures.extents.columns
    (ap (λ (z : ℤ). pos at.here.i +ℤ z) (to_z-of_z w32 c.args.di c.ranges.di))
    c.requires.readable.inside

pub wrapped_place-j-requires-clause-inside : goal.wrapped_place-j-requires-clause-inside
wrapped_place-j-requires-clause-inside c =
    let at = c.args.at.now in
    inside_y at.old.now.plan.now at.old.now.number c.args.field (pos at.here.j +ℤ c.args.dj) (pos at.here.i +ℤ c.args.di) _ _ _
    c.requires.y c.size_at-size.ensures.extents.rows
    (ap (λ (z : ℤ). pos at.here.j +ℤ z) (to_z-of_z w32 c.args.dj c.ranges.dj))
    c.requires.readable.inside
