use Rattle.std.proofs.Common.{refl, [], ◌∷◌}
use Rattle.std.proofs.lemmas.Result.{on_err_weaker}
use Rattle.wf_model.specs.Files.{append, write_at}
use Rattle.wf_model.proofs.StoreRunLaws.{ran_then, stopped_one, stopped_right, at_error, failed_one, failed_right}
use Rattle.wf_top.proofs.writes.write_record.Goals as goal

pub returns-in-Err-clause-err : goal.returns-in-Err-clause-err
returns-in-Err-clause-err g c =
    stopped_one (append c.args.name.now c.args.time.now) (append c.args.name.now c.args.slab.now ∷ write_at c.args.name.now 4 c.args.count.now ∷ []) (g.S.Store.files c.args.store.now) (g.S.Store.files c.append.new.self) c.in-Err.ensures.err

pub returns-in-Err-append-clause-err : goal.returns-in-Err-append-clause-err
returns-in-Err-append-clause-err g c =
    let time = append c.args.name.now c.args.time.now in
    let slab = append c.args.name.now c.args.slab.now in
    let count = write_at c.args.name.now 4 c.args.count.now in
    stopped_right (time ∷ []) (slab ∷ count ∷ []) (g.S.Store.files c.args.store.now) (g.S.Store.files c.append.new.self) (g.S.Store.files c.append-2.new.self) c.in-Ok.ensures.ok
    (stopped_one slab (count ∷ []) (g.S.Store.files c.append.new.self) (g.S.Store.files c.append-2.new.self) c.in-Err-append.ensures.err)

pub returns-in-Ok-append-clause-err : goal.returns-in-Ok-append-clause-err
returns-in-Ok-append-clause-err g c =
    let time = append c.args.name.now c.args.time.now in
    let slab = append c.args.name.now c.args.slab.now in
    let count = write_at c.args.name.now 4 c.args.count.now in
    let first = g.S.Store.files c.args.store.now in
    let second = g.S.Store.files c.append.new.self in
    let third = g.S.Store.files c.append-2.new.self in
    let last = g.S.Store.files c.write_at.new.self in
    on_err_weaker c.write_at.result (λ told. stopped_right (time ∷ slab ∷ []) (count ∷ []) first third last
    (ran_then (time ∷ []) (slab ∷ []) first second third c.in-Ok.ensures.ok c.in-Ok-append.ensures.ok) (stopped_one count [] third last told)) c.write_at.ensures.err

pub returns-in-Err-clause-failed_call : goal.returns-in-Err-clause-failed_call
returns-in-Err-clause-failed_call g c =
    λ is. failed_one (append c.args.name.now c.args.time.now) (append c.args.name.now c.args.slab.now ∷ write_at c.args.name.now 4 c.args.count.now ∷ []) c.args.name.now (g.S.Store.files c.args.store.now) (g.S.Store.files c.append.new.self) refl c.in-Err.ensures.err

pub returns-in-Err-append-clause-failed_call : goal.returns-in-Err-append-clause-failed_call
returns-in-Err-append-clause-failed_call g c =
    let time = append c.args.name.now c.args.time.now in
    let slab = append c.args.name.now c.args.slab.now in
    let count = write_at c.args.name.now 4 c.args.count.now in
    λ is. failed_right (time ∷ []) (slab ∷ count ∷ []) c.args.name.now (g.S.Store.files c.args.store.now) (g.S.Store.files c.append.new.self) (g.S.Store.files c.append-2.new.self) c.in-Ok.ensures.ok
    (failed_one slab (count ∷ []) c.args.name.now (g.S.Store.files c.append.new.self) (g.S.Store.files c.append-2.new.self) refl c.in-Err-append.ensures.err)

pub returns-in-Ok-append-clause-failed_call : goal.returns-in-Ok-append-clause-failed_call
returns-in-Ok-append-clause-failed_call g c =
    let time = append c.args.name.now c.args.time.now in
    let slab = append c.args.name.now c.args.slab.now in
    let count = write_at c.args.name.now 4 c.args.count.now in
    let first = g.S.Store.files c.args.store.now in
    let second = g.S.Store.files c.append.new.self in
    let third = g.S.Store.files c.append-2.new.self in
    let last = g.S.Store.files c.write_at.new.self in
    λ is. failed_right (time ∷ slab ∷ []) (count ∷ []) c.args.name.now first third last
    (ran_then (time ∷ []) (slab ∷ []) first second third c.in-Ok.ensures.ok c.in-Ok-append.ensures.ok) (failed_one count [] c.args.name.now third last refl (at_error c.write_at.result _ is c.write_at.ensures.err))
