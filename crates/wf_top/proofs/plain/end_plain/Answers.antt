use Rattle.std.proofs.Common.{ℕ, List, map, string_bytes}
use Rattle.wf_words.specs.Commands.{plain_words}
use Rattle.wf_setup.proofs.Stores.{only_first}
use Rattle.wf_top.specs.Ends.{Said}
use Rattle.wf_top.specs.Plain.{PlainEnded, storing}
use Rattle.wf_top.proofs.PlainLaws.{plain_lacked}
use Rattle.wf_top.proofs.WordLaws.{words_lacked}
use Rattle.wf_top.proofs.plain.end_plain.Goals as goal

pub returns-in-Err-Memory : goal.returns-in-Err-Memory
returns-in-Err-Memory g c =
    let fs = g.S.Store.files c.args.store.now in
    let before = g.S.Store.faults c.args.store.now in
    let failed = g.S.Store.failed c.args.store.now in
    let Says : ℕ → List ℕ → Type 0 = λ status text. Said status text (g.O.Sink.taken c.args.out.now) (g.O.Sink.taken c.say-in-Err-Memory.new.out) (g.O.Sink.faults c.args.out.now) (g.O.Sink.faults c.say-in-Err-Memory.new.out) c.say-in-Err-Memory.result in
    words_lacked (PlainEnded (storing c.args.hooks.now g.M.Meanings.answer)) fs before failed Says (plain_words (map string_bytes c.args.words.now))
    (λ defines. plain_lacked (storing c.args.hooks.now g.M.Meanings.answer) defines fs fs before before failed Says (only_first fs before) c.say-in-Err-Memory.ensures) c.say-in-Err-Memory.ensures
