use Rattle.wf_tile.proofs.Places.{least_is}
use Rattle.wf_tile.proofs.run.run_tiles.Goals as goal

pub returns-clause-none : goal.returns-clause-none
returns-clause-none g c = (least_is _ _ _ _ c.requires.tiles c.fill_beside.ensures.least).0

pub returns-clause-least : goal.returns-clause-least
returns-clause-least g c = (least_is _ _ _ _ c.requires.tiles c.fill_beside.ensures.least).1
