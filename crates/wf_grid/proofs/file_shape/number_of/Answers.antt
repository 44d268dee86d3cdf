use Rattle.std.proofs.Common.{◌∙◌, get_or, rules}
use Rattle.std.proofs.lemmas.Int.{to_z-of_z}
use Rattle.std.specs.Prelude.{FitsSigned}
use mir.Syntax.{w32}
use Rattle.wf_model.specs.Grids.{grid_from}
use Rattle.wf_model.specs.Outcome.{no_list}
use Rattle.wf_grid.specs.Filled.{AreExtents}
use Rattle.wf_grid.specs.Levels.{grids_of}
use Rattle.wf_grid.proofs.file_shape.number_of.Goals as goal

pub returns : goal.returns
unfolding grids_of
returns c =
    let at = c.args.at.now in
    let fits : FitsSigned w32 c.number_in.result = search rules in
    let x : AreExtents at.plan.now at.number at.field at.extents = at.sized in
    to_z-of_z w32 c.number_in.result fits ∙ c.number_in.ensures ∙ (λ n. grid_from (x.rows n) (x.columns n) (get_or at.levels.now at.field no_list) c.args.here.k c.args.here.j c.args.here.i)
