use Rattle.std.proofs.Common.{ap, ◌∙◌, inr}
use Rattle.wf_setup.specs.Errors.{refusal_in}
use Rattle.wf_top.specs.Ends.{Said, store_text}
use Rattle.wf_top.specs.Plain.{run_from, plain_names, storing}
use Rattle.wf_top.proofs.CheckLaws.{read_failed}
use Rattle.wf_top.proofs.PlainLaws.{plain_ran, plain_refused}
use Rattle.wf_top.proofs.plain.plain_case.Goals as goal

pub returns-in-Ok : goal.returns-in-Ok
returns-in-Ok g c =
    plain_ran (storing c.args.hooks.now g.M.Meanings.answer) c.args.defines.now (g.S.Store.files c.args.store.now) (g.S.Store.files c.end_run.new.store) (g.S.Store.faults c.args.store.now) (g.S.Store.faults c.end_run.new.store) (g.S.Store.failed c.end_run.new.store)
    (λ status text. Said status text (g.O.Sink.taken c.args.out.now) (g.O.Sink.taken c.end_run.new.out) (g.O.Sink.faults c.args.out.now) (g.O.Sink.faults c.end_run.new.out) c.end_run.result)
    (g.S.Store.files c.read_run.new.store) (g.S.Store.faults c.read_run.new.store) (run_from (storing c.args.hooks.now g.M.Meanings.answer) c.in-Ok.read.plan c.in-Ok.read.initial) c.in-Ok.ensures.run c.in-Ok.ensures.only c.end_run.ensures

pub returns-in-Err-Refused : goal.returns-in-Err-Refused
returns-in-Err-Refused g c =
    plain_refused (storing c.args.hooks.now g.M.Meanings.answer) c.args.defines.now (g.S.Store.files c.args.store.now) (g.S.Store.files c.read_run.new.store) (g.S.Store.faults c.args.store.now) (g.S.Store.faults c.read_run.new.store) (g.S.Store.failed c.read_run.new.store)
    (λ status text. Said status text (g.O.Sink.taken c.args.out.now) (g.O.Sink.taken c.say.new.out) (g.O.Sink.faults c.args.out.now) (g.O.Sink.faults c.say.new.out) c.say.result)
    (refusal_in c.in-Err-Refused.refused) c.as_slice.result.now (rw c.in-Err-Refused.field-0-is at c.in-Err-Refused.ensures.run) c.in-Err-Refused.ensures.only c.as_slice.ensures c.say.ensures

pub returns-in-Ok-store_text : goal.returns-in-Ok-store_text
returns-in-Ok-store_text g c =
    inr (read_failed (λ m. plain_names (storing c.args.hooks.now g.M.Meanings.answer) m c.args.defines.now) (g.S.Store.files c.args.store.now) (g.S.Store.files c.read_run.new.store) (g.S.Store.faults c.args.store.now) (g.S.Store.faults c.read_run.new.store) (g.S.Store.failed c.read_run.new.store)
    (λ status text. Said status text (g.O.Sink.taken c.args.out.now) (g.O.Sink.taken c.say-in-Ok-store_text.new.out) (g.O.Sink.faults c.args.out.now) (g.O.Sink.faults c.say-in-Ok-store_text.new.out) c.say-in-Ok-store_text.result)
    c.in-Err-Store.name c.deref.result.now (rw c.in-Err-Store.field-0-is at c.in-Err-Store.ensures.fault) (rw c.in-Err-Store.field-0-is at c.in-Err-Store.ensures.asked) c.in-Err-Store.ensures.only
    (c.deref.ensures.value ∙ c.in-Ok-store_text.ensures ∙ ap store_text c.as_slice-in-Err-Store.ensures) c.say-in-Ok-store_text.ensures)
