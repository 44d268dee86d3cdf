use Rattle.std.proofs.Common.{◌≡◌, get_or, ◌∙◌, rules}
use Rattle.std.proofs.lemmas.Int.{to_z-of_z}
use Rattle.std.proofs.lemmas.List.{get_or_read}
use Rattle.std.specs.Prelude.{pos, FitsSigned}
use mir.Syntax.{w32}
use Rattle.wf_model.specs.Grids.{grid_from}
use Rattle.wf_model.specs.Outcome.{no_list}
use Rattle.wf_grid.proofs.surroundings.number_in.Goals as goal

pub returns : goal.returns
unfolding grid_from
returns c =
    let fits : FitsSigned w32 (get_or c.as_slice-list.result.now c.place.result (pos 0)) = search rules in
    let list : c.as_slice-list.result.now ≡ get_or c.args.levels.now c.args.field no_list = c.as_slice-list.ensures ∙ get_or_read c.args.levels.now c.args.field c.index-levels-field.result c.requires.level c.index-levels-field.is no_list in
    to_z-of_z w32 (get_or c.as_slice-list.result.now c.place.result (pos 0)) fits ∙ (λ n. get_or (list n) (c.place.ensures.value n) (pos 0))
