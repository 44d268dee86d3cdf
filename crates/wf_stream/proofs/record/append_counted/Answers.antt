use Rattle.std.proofs.Common.{[], ◌∷◌}
use Rattle.wf_model.specs.Files.{append}
use Rattle.wf_stream.proofs.StoreWriteLaws.{wrote_none}
use Rattle.wf_stream.proofs.record.append_counted.Goals as goal

pub returns-in-None-clause-wrote : goal.returns-in-None-clause-wrote
returns-in-None-clause-wrote g c = wrote_none (append c.args.name.now c.args.bytes.now ∷ []) c.args.name.now (g.S.Store.files c.args.store.now) (g.S.Store.faults c.args.store.now) (g.S.Store.failed c.args.store.now)
