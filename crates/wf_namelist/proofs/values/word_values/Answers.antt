use Rattle.std.proofs.Common.{drop, sym}
use Rattle.wf_model.proofs.ReadingLemmas.{Gives-along}
use Rattle.wf_namelist.specs.NamelistError.{fault_of}
use Rattle.wf_namelist.proofs.WordValues.{repeated_word, unrepeated_word}
use Rattle.wf_namelist.proofs.values.word_values.Goals as goal

pub returns-in-Some-repeats : goal.returns-in-Some-repeats
returns-in-Some-repeats c =
    Gives-along (λ r. (r.0.items, drop r.1 c.args.tokens.now)) fault_of c.repeated.result _ _
    (sym (repeated_word c.args.word.now c.split_at.result.0.now _ (drop c.args.at c.args.tokens.now) c.in-Some.star c.in-Some-repeats.count (sym c.in-Some.ensures.place) c.split_at.ensures.front c.split_at-in-Some.ensures.back (sym c.in-Some-repeats.ensures))) c.repeated.ensures

pub returns-in-None-repeats : goal.returns-in-None-repeats
returns-in-None-repeats c =
    rw c.refused.ensures (unrepeated_word c.args.word.now c.split_at.result.0.now (drop c.args.at c.args.tokens.now) c.in-Some.star (sym c.in-Some.ensures.place) c.split_at.ensures.front (sym c.in-None-repeats.ensures))
