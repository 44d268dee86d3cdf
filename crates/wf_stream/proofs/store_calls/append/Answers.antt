use Rattle.std.proofs.Common.{refl}
use Rattle.wf_model.specs.Files.{append}
use Rattle.wf_stream.proofs.StoreWriteLaws.{wrote_error}
use Rattle.wf_stream.proofs.store_calls.append.Goals as goal

pub returns-in-Err-clause-wrote : goal.returns-in-Err-clause-wrote
returns-in-Err-clause-wrote g c =
    wrote_error {Y = Unit {0}} (append c.args.name.now c.args.bytes.now) c.args.name.now (g.S.Store.files c.args.store.now) (g.S.Store.files c.append.new.self) (g.S.Store.faults c.args.store.now) (g.S.Store.faults c.append.new.self) (g.S.Store.failed c.append.new.self)
    c.in-Err.error c.stream_error.result c.stream_error.ensures refl c.in-Err.ensures.err c.in-Err.ensures.faults c.in-Err.ensures.failed
