use Rattle.std.proofs.Common.{◌∙◌, ap, Ok, Err, inl, inr}
use Rattle.wf_setup.specs.Asked.{case_names}
use Rattle.wf_setup.specs.Errors.{refusal_in}
use Rattle.wf_top.specs.Ends.{Said, store_text}
use Rattle.wf_top.proofs.CheckLaws.{check_answered, read_failed}
use Rattle.wf_top.proofs.checks.check_case.Goals as goal

pub returns-in-Ok-read_text : goal.returns-in-Ok-read_text
returns-in-Ok-read_text g c =
    check_answered c.args.hooks.now c.args.defines.now (g.S.Store.files c.args.store.now) (g.S.Store.files c.case_of_store.new.store) (g.S.Store.faults c.args.store.now) (g.S.Store.faults c.case_of_store.new.store) (g.S.Store.failed c.case_of_store.new.store)
    (λ status text. Said status text (g.O.Sink.taken c.args.out.now) (g.O.Sink.taken c.say.new.out) (g.O.Sink.faults c.args.out.now) (g.O.Sink.faults c.say.new.out) c.say.result)
    (Ok c.in-Ok.case) c.deref.result.now c.in-Ok.ensures.case c.in-Ok.ensures.only (c.deref.ensures.value ∙ c.in-Ok-read_text.ensures) c.say.ensures

pub returns-in-Err-Refused : goal.returns-in-Err-Refused
returns-in-Err-Refused g c =
    check_answered c.args.hooks.now c.args.defines.now (g.S.Store.files c.args.store.now) (g.S.Store.files c.case_of_store.new.store) (g.S.Store.faults c.args.store.now) (g.S.Store.faults c.case_of_store.new.store) (g.S.Store.failed c.case_of_store.new.store)
    (λ status text. Said status text (g.O.Sink.taken c.args.out.now) (g.O.Sink.taken c.say-in-Err-Refused.new.out) (g.O.Sink.faults c.args.out.now) (g.O.Sink.faults c.say-in-Err-Refused.new.out) c.say-in-Err-Refused.result)
    (Err (refusal_in c.in-Err-Refused.refused)) c.as_slice.result.now (rw c.in-Err-Refused.field-0-is at c.in-Err-Refused.ensures.case) c.in-Err-Refused.ensures.only
    c.as_slice.ensures c.say-in-Err-Refused.ensures

pub returns-in-Ok-store_text : goal.returns-in-Ok-store_text
returns-in-Ok-store_text g c =
    inr (inl (read_failed (λ m. case_names m c.args.defines.now) (g.S.Store.files c.args.store.now) (g.S.Store.files c.case_of_store.new.store) (g.S.Store.faults c.args.store.now) (g.S.Store.faults c.case_of_store.new.store) (g.S.Store.failed c.case_of_store.new.store)
    (λ status text. Said status text (g.O.Sink.taken c.args.out.now) (g.O.Sink.taken c.say-in-Ok-store_text.new.out) (g.O.Sink.faults c.args.out.now) (g.O.Sink.faults c.say-in-Ok-store_text.new.out) c.say-in-Ok-store_text.result)
    c.in-Err-Store.name c.deref-in-Ok-store_text.result.now (rw c.in-Err-Store.field-0-is at c.in-Err-Store.ensures.fault) (rw c.in-Err-Store.field-0-is at c.in-Err-Store.ensures.asked) c.in-Err-Store.ensures.only
    (c.deref-in-Ok-store_text.ensures.value ∙ c.in-Ok-store_text.ensures ∙ ap store_text c.as_slice-in-Err-Store.ensures) c.say-in-Ok-store_text.ensures))
