use Rattle.std.proofs.Common.{sym, ap, ◌∙◌}
use Rattle.std.specs.List.{slice_split}
use Rattle.wf_model.specs.Reading.{each}
use Rattle.wf_model.proofs.ReadingLemmas.{with_front, with_front-nil, each-step}
use Rattle.wf_words.specs.Commands.{defines_of, is_comma, pair_of, parts}
use Rattle.wf_words.proofs.defines.defines.Goals as goal

pub loop-rest-init : goal.loop-rest-init
unfolding defines_of
loop-rest-init c = rw c.new-pairs.ensures.items (with_front-nil (each pair_of (slice_split is_comma c.args.list.now)))

pub loop-rest-preserved : goal.loop-rest-preserved
loop-rest-preserved c =
    rw c.in_ok-push.ensures.items (each-step pair_of c.loop-rest.pairs.items c.first_part.result.0.now (parts c.first_part.result.1) c.in_ok-one.one (defines_of c.args.list.now) c.in_ok-one.ensures
    (ap (λ ps. with_front c.loop-rest.pairs.items (each pair_of ps)) (sym c.first_part.ensures.parts)
    ∙ ap (λ r. with_front c.loop-rest.pairs.items (each pair_of (parts r))) (sym c.in-Some.is)
    ∙ c.loop-rest.invariant))
