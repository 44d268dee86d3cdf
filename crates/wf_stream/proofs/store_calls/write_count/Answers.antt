use Rattle.std.proofs.Common.{ℕ, List, [], ◌∷◌, Err, refl, subst}
use Rattle.wf_model.specs.Files.{write_at}
use Rattle.wf_stream.proofs.StoreWriteLaws.{wrote_error}
use Rattle.wf_stream.specs.StoreWrites.{Wrote}
use Rattle.wf_stream.proofs.store_calls.write_count.Goals as goal

pub returns-in-Err : goal.returns-in-Err
returns-in-Err g c =
    let name = c.args.name.now in
    let a = g.S.Store.files c.args.store.now in
    let b = g.S.Store.files c.write_at.new.self in
    let m = g.S.Store.faults c.args.store.now in
    let n = g.S.Store.faults c.write_at.new.self in
    let failed = g.S.Store.failed c.write_at.new.self in
    subst (λ (bytes : List ℕ). Wrote {X = Unit {0}} (write_at name 4 bytes ∷ []) name a b m n failed (Err c.stream_error.result)) c.to_be_bytes.ensures
    (wrote_error {Y = Unit {0}} (write_at name 4 c.to_be_bytes.result) name a b m n failed c.in-Err.error c.stream_error.result c.stream_error.ensures refl c.in-Err.ensures.err c.in-Err.ensures.faults c.in-Err.ensures.failed)
