use Rattle.std.proofs.Common.{◌∙◌, get_or, rules}
use Rattle.std.proofs.lemmas.Int.{to_z-of_z}
use Rattle.std.specs.Prelude.{FitsSigned}
use mir.Syntax.{w32}
use Rattle.wf_model.specs.Grids.{grid_from}
use Rattle.wf_model.specs.Outcome.{no_list}
use Rattle.wf_grid.specs.Filled.{AreExtents}
use Rattle.wf_grid.specs.Levels.{grids_of}
use Rattle.wf_grid.proofs.surroundings.number_here.Goals as goal

pub returns : goal.returns
unfolding grids_of
returns c =
    let at = c.args.at.now.old.now in
    let fits : FitsSigned w32 c.number_in.result = search rules in
    let x : AreExtents at.plan.now at.number c.args.field c.size_at.result.extents = c.size_at.ensures.extents in
    to_z-of_z w32 c.number_in.result fits ∙ c.number_in.ensures ∙ (λ n. grid_from (x.rows n) (x.columns n) (get_or at.levels.now c.args.field no_list) c.args.here.k c.args.here.j c.args.here.i)
