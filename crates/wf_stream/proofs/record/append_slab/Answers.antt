use Rattle.std.proofs.Common.{◌≡◌, List, ℕ, IfOk, [], ◌∷◌, subst, ap}
use Rattle.wf_model.specs.Bytes.{slab_bytes}
use Rattle.wf_model.specs.Files.{append}
use Rattle.wf_stream.specs.StoreWrites.{Wrote, part_of, with_bytes}
use Rattle.wf_stream.proofs.StoreWriteLaws.{wrote_none}
use Rattle.wf_stream.proofs.record.append_slab.Goals as goal

pub returns-in-Err-clause-wrote : goal.returns-in-Err-clause-wrote
returns-in-Err-clause-wrote g c = wrote_none (append c.args.name.now (part_of g.N.RunName.run g.N.RunName.layout c.args.slab.now) ∷ []) c.args.name.now (g.S.Store.files c.args.store.now) (g.S.Store.faults c.args.store.now) (g.S.Store.failed c.args.store.now)

pub returns-in-Ok-clause-wrote : goal.returns-in-Ok-clause-wrote
unfolding part_of
returns-in-Ok-clause-wrote g c =
    let numbers : slab_bytes c.values.result.now ≡ part_of g.N.RunName.run g.N.RunName.layout c.args.slab.now = ap slab_bytes c.values.ensures.numbers in
    let bytes = c.in-Ok.ensures.bytes in
    let is : c.deref.result.now ≡ part_of g.N.RunName.run g.N.RunName.layout c.args.slab.now = cc in
    subst (λ (b : List ℕ). Wrote (append c.args.name.now b ∷ []) c.args.name.now (g.S.Store.files c.args.store.now) (g.S.Store.files c.append_counted.new.store) (g.S.Store.faults c.args.store.now) (g.S.Store.faults c.append_counted.new.store) (g.S.Store.failed c.append_counted.new.store) c.append_counted.result) is c.append_counted.ensures.wrote

pub returns-in-Ok-clause-totals : goal.returns-in-Ok-clause-totals
unfolding part_of
returns-in-Ok-clause-totals g c =
    let numbers : slab_bytes c.values.result.now ≡ part_of g.N.RunName.run g.N.RunName.layout c.args.slab.now = ap slab_bytes c.values.ensures.numbers in
    let bytes = c.in-Ok.ensures.bytes in
    let is : c.deref.result.now ≡ part_of g.N.RunName.run g.N.RunName.layout c.args.slab.now = cc in
    subst (λ (b : List ℕ). IfOk c.append_counted.result (λ t. t ≡ with_bytes c.args.totals b)) is c.append_counted.ensures.totals
