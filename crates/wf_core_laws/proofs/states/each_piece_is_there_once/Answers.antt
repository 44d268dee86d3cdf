use Rattle.wf_core_laws.proofs.PiecesOnce.{each_piece_is_there_once}
use Rattle.wf_core_laws.proofs.states.each_piece_is_there_once.Goals as goal

pub returns : goal.returns
returns c = each_piece_is_there_once
