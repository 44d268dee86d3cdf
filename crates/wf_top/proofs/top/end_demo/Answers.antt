use Rattle.std.proofs.Common.{ap, ◌∙◌, [], Err}
use Rattle.wf_model.specs.declared.plan_fault.LayoutFault.TheVariants.{TooManyPatches}
use Rattle.wf_model.specs.Refusals.{layout_refusal}
use Rattle.wf_model.specs.Answer.{refused}
use Rattle.wf_model.specs.Demo.{demo_answer}
use Rattle.wf_model.proofs.StoreRunLaws.{ran_none, stopped_none}
use Rattle.wf_top.specs.Ends.{Said}
use Rattle.wf_top.proofs.EndLaws.{whole_answer, too_many_is, whole_is, ended_whole, ended_failed, ended_lacking}
use Rattle.wf_top.proofs.top.end_demo.Goals as goal

pub returns-in-Ok : goal.returns-in-Ok
returns-in-Ok g c =
    let d = c.args.demo.now in
    ended_whole (g.S.Store.files c.args.store.now) (g.S.Store.files c.args.store.now) (g.S.Store.faults c.args.store.now) (g.S.Store.faults c.args.store.now) (g.S.Store.failed c.args.store.now)
    (λ status text. Said status text (g.O.Sink.taken c.args.out.now) (g.O.Sink.taken c.say.new.out) (g.O.Sink.faults c.args.out.now) (g.O.Sink.faults c.say.new.out) c.say.result)
    (refused (layout_refusal (TooManyPatches 1 d.px))) (demo_answer d) c.as_bytes.result.now (too_many_is d c.if-demo.true) (ran_none (g.S.Store.files c.args.store.now)) (c.as_bytes.ensures.value ∙ c.in-Ok.ensures) c.say.ensures

pub returns-in-Err : goal.returns-in-Err
returns-in-Err g c =
    let d = c.args.demo.now in
    ended_lacking (g.S.Store.files c.args.store.now) (g.S.Store.files c.args.store.now) (g.S.Store.faults c.args.store.now) (g.S.Store.faults c.args.store.now) (g.S.Store.failed c.args.store.now)
    (λ status text. Said status text (g.O.Sink.taken c.args.out.now) (g.O.Sink.taken c.say-in-Err.new.out) (g.O.Sink.faults c.args.out.now) (g.O.Sink.faults c.say-in-Err.new.out) c.say-in-Err.result)
    (refused (layout_refusal (TooManyPatches 1 d.px))) (demo_answer d) (too_many_is d c.if-demo.true) (stopped_none [] (g.S.Store.files c.args.store.now)) c.say-in-Err.ensures

pub returns-in-Ok-run_demo : goal.returns-in-Ok-run_demo
returns-in-Ok-run_demo g c =
    let d = c.args.demo.now in
    ended_whole (g.S.Store.files c.args.store.now) (g.S.Store.files c.run_demo.new.store) (g.S.Store.faults c.args.store.now) (g.S.Store.faults c.run_demo.new.store) (g.S.Store.failed c.run_demo.new.store)
    (λ status text. Said status text (g.O.Sink.taken c.args.out.now) (g.O.Sink.taken c.say-in-Ok-run_demo.new.out) (g.O.Sink.faults c.args.out.now) (g.O.Sink.faults c.say-in-Ok-run_demo.new.out) c.say-in-Ok-run_demo.result)
    (whole_answer d) (demo_answer d) c.as_bytes-in-Ok-run_demo.result.now (whole_is d c.if-demo.false) c.in-Ok-run_demo.ensures.ok (c.as_bytes-in-Ok-run_demo.ensures.value ∙ c.in-Ok-run_demo.ensures.text) c.say-in-Ok-run_demo.ensures

pub returns-in-Err-Fault : goal.returns-in-Err-Fault
returns-in-Err-Fault g c =
    let d = c.args.demo.now in
    ended_failed (g.S.Store.files c.args.store.now) (g.S.Store.files c.run_demo.new.store) (g.S.Store.faults c.args.store.now) (g.S.Store.faults c.run_demo.new.store) (g.S.Store.failed c.run_demo.new.store)
    (λ status text. Said status text (g.O.Sink.taken c.args.out.now) (g.O.Sink.taken c.say-in-Err-Fault.new.out) (g.O.Sink.faults c.args.out.now) (g.O.Sink.faults c.say-in-Err-Fault.new.out) c.say-in-Err-Fault.result)
    (whole_answer d) (demo_answer d) (whole_is d c.if-demo.false) (c.in-Err-Fault.ensures.faults.rose (ap (λ (e : _). Err e) c.in-Err-Fault.field-0-is)) (c.in-Err-Fault.ensures.failed (ap (λ (e : _). Err e) c.in-Err-Fault.field-0-is)) (c.in-Err-Fault.ensures.failed_call (ap (λ (e : _). Err e) c.in-Err-Fault.field-0-is)) c.say-in-Err-Fault.ensures

pub returns-in-Err-Memory : goal.returns-in-Err-Memory
returns-in-Err-Memory g c =
    let d = c.args.demo.now in
    ended_lacking (g.S.Store.files c.args.store.now) (g.S.Store.files c.run_demo.new.store) (g.S.Store.faults c.args.store.now) (g.S.Store.faults c.run_demo.new.store) (g.S.Store.failed c.run_demo.new.store)
    (λ status text. Said status text (g.O.Sink.taken c.args.out.now) (g.O.Sink.taken c.say-in-Err-Memory.new.out) (g.O.Sink.faults c.args.out.now) (g.O.Sink.faults c.say-in-Err-Memory.new.out) c.say-in-Err-Memory.result)
    (whole_answer d) (demo_answer d) (whole_is d c.if-demo.false) c.in-Err-Memory.ensures.err c.say-in-Err-Memory.ensures
