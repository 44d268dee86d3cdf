use Rattle.wf_model.specs.Writes.{frame_calls}
use Rattle.wf_model.proofs.StoreRunLaws.{stopped_none}
use Rattle.wf_grid.proofs.stepping.write_next.Goals as goal

pub returns-in-Err-clause-error : goal.returns-in-Err-clause-error
returns-in-Err-clause-error g c = stopped_none (frame_calls g.N.RunName.run c.args.frame) (g.S.Store.files c.args.store.now)
