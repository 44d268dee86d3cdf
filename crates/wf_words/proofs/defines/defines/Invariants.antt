use Rattle.std.proofs.Common.{◌≡◌}
use Rattle.wf_model.specs.Reading.{each}
use Rattle.wf_model.proofs.ReadingLemmas.{with_front}
use Rattle.wf_words.specs.Commands.{defines_of, left_of, pair_of, parts}
use Rattle.wf_words.proofs.defines.defines.Given as goal

abbrev pub invariant-loop-rest : goal.invariant-loop-rest
invariant-loop-rest l = with_front l.pairs.items (each pair_of (parts l.rest)) ≡ defines_of l.list

abbrev pub decreases-loop-rest : goal.decreases-loop-rest
decreases-loop-rest l = left_of l.rest
