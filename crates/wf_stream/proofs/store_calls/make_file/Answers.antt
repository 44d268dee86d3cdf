use Rattle.std.proofs.Common.{refl, [], ◌∷◌}
use Rattle.wf_model.specs.Files.{create, append}
use Rattle.wf_stream.proofs.StoreWriteLaws.{wrote_all, wrote_error, wrote_then, wrote_left}
use Rattle.wf_stream.proofs.store_calls.make_file.Goals as goal

pub returns-in-Err-clause-wrote : goal.returns-in-Err-clause-wrote
returns-in-Err-clause-wrote g c =
    let a = g.S.Store.files c.args.store.now in
    let b = g.S.Store.files c.create.new.self in
    let m = g.S.Store.faults c.args.store.now in
    let n = g.S.Store.faults c.create.new.self in
    wrote_left {X = Unit {0}} (create c.args.name.now ∷ []) (append c.args.name.now c.args.header.now ∷ []) c.args.name.now a b m n (g.S.Store.failed c.create.new.self) c.stream_error.result
    (wrote_error {Y = Unit {0}} (create c.args.name.now) c.args.name.now a b m n (g.S.Store.failed c.create.new.self) c.in-Err.error c.stream_error.result c.stream_error.ensures refl c.in-Err.ensures.err c.in-Err.ensures.faults c.in-Err.ensures.failed)

pub returns-in-Err-append-clause-wrote : goal.returns-in-Err-append-clause-wrote
returns-in-Err-append-clause-wrote g c =
    let name = c.args.name.now in
    let a = g.S.Store.files c.args.store.now in
    let b = g.S.Store.files c.create.new.self in
    let d = g.S.Store.files c.append.new.self in
    let l = g.S.Store.faults c.args.store.now in
    let m = g.S.Store.faults c.create.new.self in
    let n = g.S.Store.faults c.append.new.self in
    wrote_then {X = Unit {0}} (create name ∷ []) (append name c.args.header.now ∷ []) name a b d l m n (g.S.Store.failed c.create.new.self) (g.S.Store.failed c.append.new.self) tt _
    (wrote_all (create name ∷ []) name a b l m (g.S.Store.failed c.create.new.self) tt c.in-Ok.ensures.ok c.create.ensures.faults.later)
    (wrote_error {Y = Unit {0}} (append name c.args.header.now) name b d m n (g.S.Store.failed c.append.new.self) c.in-Err-append.error c.stream_error-in-Err-append.result c.stream_error-in-Err-append.ensures refl c.in-Err-append.ensures.err c.in-Err-append.ensures.faults c.in-Err-append.ensures.failed)
