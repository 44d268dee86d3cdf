use Rattle.std.proofs.Common.{[], ◌∷◌}
use Rattle.wf_model.specs.Bytes.{char_bytes}
use Rattle.wf_model.specs.Files.{append}
use Rattle.wf_stream.proofs.StoreWriteLaws.{wrote_none}
use Rattle.wf_stream.proofs.record.append_time.Goals as goal

pub returns-in-Err-clause-wrote : goal.returns-in-Err-clause-wrote
returns-in-Err-clause-wrote g c = wrote_none (append c.args.name.now (char_bytes c.args.is_padded c.args.time.now) ∷ []) c.args.name.now (g.S.Store.files c.args.store.now) (g.S.Store.faults c.args.store.now) (g.S.Store.failed c.args.store.now)
