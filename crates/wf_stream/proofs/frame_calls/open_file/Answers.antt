use Rattle.std.proofs.Common.{List, ℕ, [], ◌∷◌, Ok, subst, arith, ◌∙◌}
use Rattle.wf_model.specs.Files.{StoreCall, create, append}
use Rattle.wf_model.proofs.StoreRunLaws.{ran_none}
use Rattle.wf_stream.specs.StoreWrites.{Wrote, opening}
use Rattle.wf_stream.proofs.StoreWriteLaws.{wrote_all, wrote_none}
use Rattle.wf_stream.proofs.FrameCallLaws.{opening_none, opening_some}
use Rattle.wf_stream.proofs.frame_calls.open_file.Goals as goal

pub returns-then-not-frame-clause-wrote : goal.returns-then-not-frame-clause-wrote
returns-then-not-frame-clause-wrote g c =
    let a = g.S.Store.files c.args.store.now in
    let m = g.S.Store.faults c.args.store.now in
    let f = g.S.Store.failed c.args.store.now in
    subst (λ (cs : List StoreCall). Wrote {X = Unit {0}} cs c.args.frame.now.file a a m m f (Ok tt)) (opening_none g.N.RunName.run c.args.frame.now c.if-not-frame.true)
    (wrote_all [] c.args.frame.now.file a a m m f tt (ran_none a) (omega arith))

pub returns-in-Err-clause-wrote : goal.returns-in-Err-clause-wrote
returns-in-Err-clause-wrote g c =
    wrote_none (opening g.N.RunName.run c.args.frame.now) c.args.frame.now.file (g.S.Store.files c.args.store.now) (g.S.Store.faults c.args.store.now) (g.S.Store.failed c.args.store.now)

pub returns-in-Ok-clause-wrote : goal.returns-in-Ok-clause-wrote
returns-in-Ok-clause-wrote g c =
    let name = c.args.name.now in
    let a = g.S.Store.files c.args.store.now in
    let b = g.S.Store.files c.make_file.new.store in
    let m = g.S.Store.faults c.args.store.now in
    let n = g.S.Store.faults c.make_file.new.store in
    let f = g.S.Store.failed c.make_file.new.store in
    let same = c.requires.file in
    let calls = opening_some g.N.RunName.run c.args.frame.now name c.deref.result.now c.if-not-frame.false same (c.deref.ensures.value ∙ c.in-Ok.ensures.bytes) in
    subst (λ (cs : List StoreCall). Wrote {X = Unit {0}} cs c.args.frame.now.file a b m n f c.make_file.result) calls
    (subst (λ (q : List ℕ). Wrote {X = Unit {0}} (create name ∷ append name c.deref.result.now ∷ []) q a b m n f c.make_file.result) same c.make_file.ensures.wrote)
