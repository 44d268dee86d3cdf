use Rattle.std.proofs.Common.{refl, subst, map, string_bytes}
use Rattle.wf_model.specs.Answer.{Answer}
use Rattle.wf_model.specs.Demo.{usage, tool_answer}
use Rattle.wf_model.proofs.StoreRunLaws.{ran_none}
use Rattle.wf_top.specs.Ends.{Said, Ended}
use Rattle.wf_top.proofs.EndLaws.{usage_is, asked_is, ended_whole}
use Rattle.wf_top.proofs.top.end_other.Goals as goal

pub returns-in-None : goal.returns-in-None
returns-in-None g c =
    let words = map string_bytes c.args.words.now in
    ended_whole (g.S.Store.files c.args.store.now) (g.S.Store.files c.args.store.now) (g.S.Store.faults c.args.store.now) (g.S.Store.faults c.args.store.now) (g.S.Store.failed c.args.store.now)
    (λ status text. Said status text (g.O.Sink.taken c.args.out.now) (g.O.Sink.taken c.say.new.out) (g.O.Sink.faults c.args.out.now) (g.O.Sink.faults c.say.new.out) c.say.result)
    usage (tool_answer words) usage.text (usage_is words c.in-None.ensures.demo) (ran_none (g.S.Store.files c.args.store.now)) refl c.say.ensures

pub returns-in-Some : goal.returns-in-Some
returns-in-Some g c =
    let words = map string_bytes c.args.words.now in
    subst (λ (a : Answer). Ended a (g.S.Store.files c.args.store.now) (g.S.Store.files c.end_demo.new.store) (g.S.Store.faults c.args.store.now) (g.S.Store.faults c.end_demo.new.store) (g.S.Store.failed c.end_demo.new.store)
    (λ status text. Said status text (g.O.Sink.taken c.args.out.now) (g.O.Sink.taken c.end_demo.new.out) (g.O.Sink.faults c.args.out.now) (g.O.Sink.faults c.end_demo.new.out) c.end_demo.result))
    (asked_is words c.in-Some.demo c.in-Some.ensures.demo) c.end_demo.ensures
