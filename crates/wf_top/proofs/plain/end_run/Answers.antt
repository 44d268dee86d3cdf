use Rattle.std.proofs.Common.{ap, ◌∙◌}
use Rattle.wf_model.specs.StoreRuns.{Stopped}
use Rattle.wf_model.specs.Writes.{writes_of, summary_of}
use Rattle.wf_model.specs.Answer.{summary_line, overflow_line}
use Rattle.wf_model.proofs.StoreRunLaws.{stopped_none, stopped_whole}
use Rattle.wf_grid.specs.RunEnds.{EndsByOverflow, EndsByFault}
use Rattle.wf_top.specs.Ends.{Said, store_text}
use Rattle.wf_top.specs.Plain.{run_from, storing, whole_answer}
use Rattle.wf_top.proofs.RunLaws.{ran_whole, ran_over, calls_are}
use Rattle.wf_top.proofs.PlainLaws.{calls_made, call_failed, calls_lacked, stopped_failed}
use Rattle.wf_top.proofs.plain.end_run.Goals as goal

pub returns-in-Err : goal.returns-in-Err
returns-in-Err g c =
    let r = run_from (storing c.args.hooks.now g.M.Meanings.answer) c.args.run.plan c.args.run.initial in
    let fs = g.S.Store.files c.args.store.now in
    calls_lacked (whole_answer r) fs fs (g.S.Store.faults c.args.store.now) (g.S.Store.faults c.args.store.now) (g.S.Store.failed c.args.store.now)
    (λ status text. Said status text (g.O.Sink.taken c.args.out.now) (g.O.Sink.taken c.say.new.out) (g.O.Sink.faults c.args.out.now) (g.O.Sink.faults c.say.new.out) c.say.result)
    (writes_of r) (calls_are r) (stopped_none (writes_of r) fs) c.say.ensures

pub returns-in-Ok-summary_text : goal.returns-in-Ok-summary_text
returns-in-Ok-summary_text g c =
    let r = run_from (storing c.args.hooks.now g.M.Meanings.answer) c.args.run.plan c.args.run.initial in
    let fs = g.S.Store.files c.args.store.now in
    let gs = g.S.Store.files c.step_run.new.store in
    let i = g.S.Store.faults c.args.store.now in
    let j = g.S.Store.faults c.step_run.new.store in
    let last = g.S.Store.failed c.step_run.new.store in
    calls_made (whole_answer r) fs gs i j last
    (λ status text. Said status text (g.O.Sink.taken c.args.out.now) (g.O.Sink.taken c.say-in-Ok-summary_text.new.out) (g.O.Sink.faults c.args.out.now) (g.O.Sink.faults c.say-in-Ok-summary_text.new.out) c.say-in-Ok-summary_text.result)
    (record { status = 0; text = summary_line (summary_of r); calls = writes_of r }) c.as_bytes.result.now
    (ran_whole r c.in-Ok-step_run.ensures.settled) c.in-Ok-step_run.ensures.written
    (c.as_bytes.ensures.value ∙ c.in-Ok-summary_text.ensures (summary_of r) c.in-Ok-step_run.ensures.finished) c.say-in-Ok-summary_text.ensures

pub returns-in-Ok-step_run : goal.returns-in-Ok-step_run
returns-in-Ok-step_run g c =
    let r = run_from (storing c.args.hooks.now g.M.Meanings.answer) c.args.run.plan c.args.run.initial in
    let fs = g.S.Store.files c.args.store.now in
    let gs = g.S.Store.files c.step_run.new.store in
    let i = g.S.Store.faults c.args.store.now in
    let j = g.S.Store.faults c.step_run.new.store in
    let last = g.S.Store.failed c.step_run.new.store in
    calls_lacked (whole_answer r) fs gs i j last
    (λ status text. Said status text (g.O.Sink.taken c.args.out.now) (g.O.Sink.taken c.say-in-Err-summary_text.new.out) (g.O.Sink.faults c.args.out.now) (g.O.Sink.faults c.say-in-Err-summary_text.new.out) c.say-in-Err-summary_text.result)
    (writes_of r) (calls_are r) (stopped_whole (writes_of r) fs gs c.in-Ok-step_run.ensures.written) c.say-in-Err-summary_text.ensures

pub returns-in-Ok-overflow_text : goal.returns-in-Ok-overflow_text
returns-in-Ok-overflow_text g c =
    let r = run_from (storing c.args.hooks.now g.M.Meanings.answer) c.args.run.plan c.args.run.initial in
    let fs = g.S.Store.files c.args.store.now in
    let gs = g.S.Store.files c.step_run.new.store in
    let i = g.S.Store.faults c.args.store.now in
    let j = g.S.Store.faults c.step_run.new.store in
    let last = g.S.Store.failed c.step_run.new.store in
    let over : EndsByOverflow r fs gs c.in-Err-Overflow.point = rw c.in-Err-Overflow.field-0-is at c.in-Err-Overflow.ensures.error in
    calls_made (whole_answer r) fs gs i j last
    (λ status text. Said status text (g.O.Sink.taken c.args.out.now) (g.O.Sink.taken c.say-in-Ok-overflow_text.new.out) (g.O.Sink.faults c.args.out.now) (g.O.Sink.faults c.say-in-Ok-overflow_text.new.out) c.say-in-Ok-overflow_text.result)
    (record { status = 8; text = overflow_line r.plan c.in-Err-Overflow.point; calls = writes_of r }) c.deref.result.now
    (ran_over r c.in-Err-Overflow.point over.first) over.written
    (c.deref.ensures.value ∙ c.in-Ok-overflow_text.ensures c.args.run.plan c.in-Ok.ensures) c.say-in-Ok-overflow_text.ensures

pub returns-in-Err-Overflow : goal.returns-in-Err-Overflow
returns-in-Err-Overflow g c =
    let r = run_from (storing c.args.hooks.now g.M.Meanings.answer) c.args.run.plan c.args.run.initial in
    let fs = g.S.Store.files c.args.store.now in
    let gs = g.S.Store.files c.step_run.new.store in
    let i = g.S.Store.faults c.args.store.now in
    let j = g.S.Store.faults c.step_run.new.store in
    let last = g.S.Store.failed c.step_run.new.store in
    let over : EndsByOverflow r fs gs c.in-Err-Overflow.point = rw c.in-Err-Overflow.field-0-is at c.in-Err-Overflow.ensures.error in
    calls_lacked (whole_answer r) fs gs i j last
    (λ status text. Said status text (g.O.Sink.taken c.args.out.now) (g.O.Sink.taken c.say-in-Err-overflow_text.new.out) (g.O.Sink.faults c.args.out.now) (g.O.Sink.faults c.say-in-Err-overflow_text.new.out) c.say-in-Err-overflow_text.result)
    (writes_of r) (calls_are r) (stopped_whole (writes_of r) fs gs over.written) c.say-in-Err-overflow_text.ensures

pub returns-in-Ok-store_text : goal.returns-in-Ok-store_text
returns-in-Ok-store_text g c =
    let r = run_from (storing c.args.hooks.now g.M.Meanings.answer) c.args.run.plan c.args.run.initial in
    let fs = g.S.Store.files c.args.store.now in
    let gs = g.S.Store.files c.step_run.new.store in
    let i = g.S.Store.faults c.args.store.now in
    let j = g.S.Store.faults c.step_run.new.store in
    let last = g.S.Store.failed c.step_run.new.store in
    let fault : EndsByFault r fs gs i j last c.in-Err-Store.name = rw c.in-Err-Store.field-0-is at c.in-Err-Store.ensures.error in
    call_failed (whole_answer r) fs gs i j last
    (λ status text. Said status text (g.O.Sink.taken c.args.out.now) (g.O.Sink.taken c.say-in-Ok-store_text.new.out) (g.O.Sink.faults c.args.out.now) (g.O.Sink.faults c.say-in-Ok-store_text.new.out) c.say-in-Ok-store_text.result)
    (writes_of r) c.in-Err-Store.name c.deref-in-Ok-store_text.result.now (calls_are r) fault.counted fault.last fault.files
    (c.deref-in-Ok-store_text.ensures.value ∙ c.in-Ok-store_text.ensures ∙ ap store_text c.as_slice.ensures) c.say-in-Ok-store_text.ensures

pub returns-in-Err-Store : goal.returns-in-Err-Store
returns-in-Err-Store g c =
    let r = run_from (storing c.args.hooks.now g.M.Meanings.answer) c.args.run.plan c.args.run.initial in
    let fs = g.S.Store.files c.args.store.now in
    let gs = g.S.Store.files c.step_run.new.store in
    let i = g.S.Store.faults c.args.store.now in
    let j = g.S.Store.faults c.step_run.new.store in
    let last = g.S.Store.failed c.step_run.new.store in
    let fault : EndsByFault r fs gs i j last c.in-Err-Store.name = rw c.in-Err-Store.field-0-is at c.in-Err-Store.ensures.error in
    calls_lacked (whole_answer r) fs gs i j last
    (λ status text. Said status text (g.O.Sink.taken c.args.out.now) (g.O.Sink.taken c.say-in-Err-store_text.new.out) (g.O.Sink.faults c.args.out.now) (g.O.Sink.faults c.say-in-Err-store_text.new.out) c.say-in-Err-store_text.result)
    (writes_of r) (calls_are r) (stopped_failed (writes_of r) c.in-Err-Store.name fs gs fault.files) c.say-in-Err-store_text.ensures

pub returns : goal.returns
returns g c =
    let r = run_from (storing c.args.hooks.now g.M.Meanings.answer) c.args.run.plan c.args.run.initial in
    let fs = g.S.Store.files c.args.store.now in
    let gs = g.S.Store.files c.step_run.new.store in
    let i = g.S.Store.faults c.args.store.now in
    let j = g.S.Store.faults c.step_run.new.store in
    let last = g.S.Store.failed c.step_run.new.store in
    let stopped : Stopped (writes_of r) fs gs = rw c.in-Err-Memory.field-0-is at c.in-Err-Memory.ensures.error in
    calls_lacked (whole_answer r) fs gs i j last
    (λ status text. Said status text (g.O.Sink.taken c.args.out.now) (g.O.Sink.taken c.say-in-Err-Memory.new.out) (g.O.Sink.faults c.args.out.now) (g.O.Sink.faults c.say-in-Err-Memory.new.out) c.say-in-Err-Memory.result)
    (writes_of r) (calls_are r) stopped c.say-in-Err-Memory.ensures
