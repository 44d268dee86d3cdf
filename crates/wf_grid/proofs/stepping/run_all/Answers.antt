use Rattle.wf_model.specs.Writes.{writes_of}
use Rattle.wf_model.proofs.StoreRunLaws.{stopped_none}
use Rattle.wf_grid.proofs.stepping.run_all.Goals as goal

pub returns-in-Err-clause-error : goal.returns-in-Err-clause-error
returns-in-Err-clause-error g c = stopped_none (writes_of g.N.RunName.run) (g.S.Store.files c.args.store.now)
