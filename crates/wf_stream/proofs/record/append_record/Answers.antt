use Rattle.std.proofs.Common.{◌≡◌, Bool, not, [], ◌∷◌, length, map, Err, subst, arith}
use Rattle.std.specs.Prelude.{nat_lt}
use Rattle.std.proofs.lemmas.Bool.Decides.{nat_tests}
use Rattle.wf_model.specs.Bytes.{char_bytes}
use Rattle.wf_model.specs.Files.{append}
use Rattle.wf_stream.specs.StoreWrites.{Wrote, appends, part_of}
use Rattle.wf_stream.specs.declared.writer.Totals.{Totals}
use Rattle.wf_stream.proofs.StoreWriteLaws.{wrote_then, wrote_left}
use Rattle.wf_stream.proofs.record.append_record.Goals as goal

pub returns-in-Err-clause-wrote : goal.returns-in-Err-clause-wrote
returns-in-Err-clause-wrote g c =
    let padded : not c.is_empty.result ≡ nat_lt 0 (length c.args.slabs.now) = grind (arith, nat_tests) in
    subst (λ (b : Bool). Wrote {X = Totals} (append c.args.name.now (char_bytes b c.args.time.now) ∷ appends c.args.name.now (map (part_of g.N.RunName.run g.N.RunName.layout) c.args.slabs.now)) c.args.name.now
    (g.S.Store.files c.args.store.now) (g.S.Store.files c.append_time.new.store) (g.S.Store.faults c.args.store.now) (g.S.Store.faults c.append_time.new.store) (g.S.Store.failed c.append_time.new.store) (Err c.in-Err.error)) padded (
    wrote_left (append c.args.name.now (char_bytes (not c.is_empty.result) c.args.time.now) ∷ []) (appends c.args.name.now (map (part_of g.N.RunName.run g.N.RunName.layout) c.args.slabs.now)) c.args.name.now
    (g.S.Store.files c.args.store.now) (g.S.Store.files c.append_time.new.store) (g.S.Store.faults c.args.store.now) (g.S.Store.faults c.append_time.new.store) (g.S.Store.failed c.append_time.new.store) c.in-Err.error c.in-Err.ensures.wrote)

pub returns-in-Ok-clause-wrote : goal.returns-in-Ok-clause-wrote
returns-in-Ok-clause-wrote g c =
    let padded : not c.is_empty.result ≡ nat_lt 0 (length c.args.slabs.now) = grind (arith, nat_tests) in
    subst (λ (b : Bool). Wrote {X = Totals} (append c.args.name.now (char_bytes b c.args.time.now) ∷ appends c.args.name.now (map (part_of g.N.RunName.run g.N.RunName.layout) c.args.slabs.now)) c.args.name.now
    (g.S.Store.files c.args.store.now) (g.S.Store.files c.append_slabs.new.store) (g.S.Store.faults c.args.store.now) (g.S.Store.faults c.append_slabs.new.store) (g.S.Store.failed c.append_slabs.new.store) c.append_slabs.result) padded (
    wrote_then (append c.args.name.now (char_bytes (not c.is_empty.result) c.args.time.now) ∷ []) (appends c.args.name.now (map (part_of g.N.RunName.run g.N.RunName.layout) c.args.slabs.now)) c.args.name.now
    (g.S.Store.files c.args.store.now) (g.S.Store.files c.append_time.new.store) (g.S.Store.files c.append_slabs.new.store) (g.S.Store.faults c.args.store.now) (g.S.Store.faults c.append_time.new.store) (g.S.Store.faults c.append_slabs.new.store)
    (g.S.Store.failed c.append_time.new.store) (g.S.Store.failed c.append_slabs.new.store) c.in-Ok.counted c.append_slabs.result c.in-Ok.ensures.wrote c.append_slabs.ensures.wrote)
