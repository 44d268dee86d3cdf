use Rattle.std.proofs.Common.{refl, [], ◌∷◌}
use Rattle.std.proofs.lemmas.Result.{on_err_weaker}
use Rattle.wf_model.specs.Files.{create, append}
use Rattle.wf_model.proofs.StoreRunLaws.{stopped_one, stopped_right, at_error, failed_one, failed_right}
use Rattle.wf_top.proofs.writes.begin_file.Goals as goal

pub returns-in-Err-clause-err : goal.returns-in-Err-clause-err
returns-in-Err-clause-err g c = stopped_one (create c.args.name.now) (append c.args.name.now c.args.header.now ∷ []) (g.S.Store.files c.args.store.now) (g.S.Store.files c.create.new.self) c.in-Err.ensures.err

pub returns-in-Ok-clause-err : goal.returns-in-Ok-clause-err
returns-in-Ok-clause-err g c =
    on_err_weaker c.append.result (λ told. stopped_right (create c.args.name.now ∷ []) (append c.args.name.now c.args.header.now ∷ []) (g.S.Store.files c.args.store.now) (g.S.Store.files c.create.new.self) (g.S.Store.files c.append.new.self)
    c.in-Ok.ensures.ok (stopped_one (append c.args.name.now c.args.header.now) [] (g.S.Store.files c.create.new.self) (g.S.Store.files c.append.new.self) told)) c.append.ensures.err

pub returns-in-Err-clause-failed_call : goal.returns-in-Err-clause-failed_call
returns-in-Err-clause-failed_call g c = λ is. failed_one (create c.args.name.now) (append c.args.name.now c.args.header.now ∷ []) c.args.name.now (g.S.Store.files c.args.store.now) (g.S.Store.files c.create.new.self) refl c.in-Err.ensures.err

pub returns-in-Ok-clause-failed_call : goal.returns-in-Ok-clause-failed_call
returns-in-Ok-clause-failed_call g c =
    λ is. failed_right (create c.args.name.now ∷ []) (append c.args.name.now c.args.header.now ∷ []) c.args.name.now (g.S.Store.files c.args.store.now) (g.S.Store.files c.create.new.self) (g.S.Store.files c.append.new.self)
    c.in-Ok.ensures.ok (failed_one (append c.args.name.now c.args.header.now) [] c.args.name.now (g.S.Store.files c.create.new.self) (g.S.Store.files c.append.new.self) refl (at_error c.append.result _ is c.append.ensures.err))
