use Rattle.std.proofs.Common.{[], ◌∷◌, Bor, map, sym, ap, ◌∙◌}
use Rattle.std.specs.Option.{option_map}
use Rattle.std.proofs.lemmas.List.{map-append}
use Rattle.wf_model.specs.Letters.{Text}
use Rattle.wf_model.specs.Io.{io_from}
use Rattle.wf_model.proofs.ReadingLemmas.{with_front}
use Rattle.wf_plan_fields.specs.declared.io.Part.{Part}
use Rattle.wf_plan_fields.specs.IoParts.{part_of}
use Rattle.wf_plan_fields.proofs.IoReads.{all_read, part_more, part_none}
use Rattle.wf_plan_fields.proofs.io.parts_from.Goals as goal

pub loop-rest-preserved : goal.loop-rest-preserved
loop-rest-preserved c =
    ap (λ front. with_front front (io_from 0 c.in-Some.behind.now)) (ap (map part_of) c.in_ok-push-in-Some.ensures.items ∙ map-append part_of c.loop-rest.parts.items (c.in-Some.part ∷ []))
    ∙ part_more (map part_of c.loop-rest.parts.items) c.loop-rest.rest.now (part_of c.in-Some.part, c.in-Some.behind.now) (io_from 0 c.args.word.now)
    (sym (ap (option_map (λ (s : Part × Bor Text). (part_of s.0, s.1.now))) c.in-Some.is) ∙ c.in_ok-part.ensures.part) c.loop-rest.invariant

pub returns-in-None : goal.returns-in-None
returns-in-None c =
    ap (map part_of) c.new.ensures.items
    ∙ part_none (map part_of c.loop-rest.parts.items) c.loop-rest.rest.now (io_from 0 c.args.word.now) (sym c.is_empty.ensures ∙ c.loop-rest-test.true)
    (sym (ap (option_map (λ (s : Part × Bor Text). (part_of s.0, s.1.now))) c.in-None.is) ∙ c.in_ok-part.ensures.part) c.loop-rest.invariant

pub returns : goal.returns
returns c =
    all_read (map part_of c.loop-rest.parts.items) c.loop-rest.rest.now (io_from 0 c.args.word.now) (sym c.is_empty.ensures ∙ c.loop-rest-test.false) c.loop-rest.invariant
