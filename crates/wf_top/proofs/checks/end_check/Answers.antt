use Rattle.std.proofs.Common.{ℕ, List, map, string_bytes, inr}
use Rattle.wf_words.specs.Commands.{check_words}
use Rattle.wf_top.specs.Ends.{Said}
use Rattle.wf_top.specs.Checks.{CheckEnded}
use Rattle.wf_top.proofs.CheckLaws.{told_same}
use Rattle.wf_top.proofs.WordLaws.{words_lacked}
use Rattle.wf_top.proofs.checks.end_check.Goals as goal

pub returns-in-Err-Memory : goal.returns-in-Err-Memory
returns-in-Err-Memory g c =
    let fs = g.S.Store.files c.args.store.now in
    let before = g.S.Store.faults c.args.store.now in
    let Says : ℕ → List ℕ → Type 0 = λ status text. Said status text (g.O.Sink.taken c.args.out.now) (g.O.Sink.taken c.say-in-Err-Memory.new.out) (g.O.Sink.faults c.args.out.now) (g.O.Sink.faults c.say-in-Err-Memory.new.out) c.say-in-Err-Memory.result in
    words_lacked (CheckEnded c.args.hooks.now) fs before (g.S.Store.failed c.args.store.now) Says (check_words (map string_bytes c.args.words.now))
    (λ defines. inr (inr (record { files = told_same fs; said = c.say-in-Err-Memory.ensures }))) c.say-in-Err-Memory.ensures
