use Rattle.wf_model.specs.Demo.{demo_calls}
use Rattle.wf_model.proofs.StoreRunLaws.{stopped_none, stopped_whole}
use Rattle.wf_top.proofs.EndLaws.{ran_along}
use Rattle.wf_top.proofs.top.run_demo.Goals as goal

pub returns-in-Err-clause-err : goal.returns-in-Err-clause-err
returns-in-Err-clause-err g c = stopped_none (demo_calls c.args.demo.now) (g.S.Store.files c.args.store.now)

pub returns-in-Err-new-clause-err : goal.returns-in-Err-new-clause-err
returns-in-Err-new-clause-err g c = stopped_none (demo_calls c.args.demo.now) (g.S.Store.files c.args.store.now)

pub returns-clause-err : goal.returns-clause-err
returns-clause-err g c = stopped_whole (demo_calls c.args.demo.now) (g.S.Store.files c.args.store.now) (g.S.Store.files c.write_file.new.store)
    (ran_along c.args.demo.now c.in-Ok-new.patches.nx c.in-Ok-new.patches.ny (g.S.Store.files c.args.store.now) (g.S.Store.files c.write_file.new.store) c.in-Ok-new.ensures.size.0 c.in-Ok-new.ensures.size.1 c.in-Ok-write_file.ensures.ok)
