use Rattle.wf_rect_laws.proofs.SameBoxes.{tiles_alike}
use Rattle.wf_rect_laws.proofs.boxes.tile_boxes_are_tiles.Goals as goal

pub returns : goal.returns
returns c = tiles_alike
