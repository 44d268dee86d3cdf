use Rattle.std.proofs.Common.{◌∙◌, ap, refl, length, List}
use Rattle.std.specs.Prelude.{ℤ}
use Rattle.wf_model.specs.InputOf.{bytes_read, slab_read}
use Rattle.wf_model.specs.Sizes.{product}
use Rattle.wf_stream.specs.Levels.{asked_in, shape_in}
use Rattle.wf_stream.proofs.LevelLemmas.{length-ints, numbers_given, numbers_there}
use Rattle.wf_stream.proofs.levels.numbers.Goals as goal

pub unreachable-requires : goal.unreachable-requires
unreachable-requires c =
    numbers_there c.args.bytes.now c.args.header.now (asked_in c.args.domain.now c.args.field.now) c.as_slice.result.now c.shape_of-shape.result.now c.in-Err-Fault.field-0-0
    refl c.as_slice.ensures.value c.shape_of-shape.ensures c.requires.found (rw c.in-Err-Fault.field-0-is at c.in-Err-Fault.ensures.fault)

pub returns-in-Ok-clause-value : goal.returns-in-Ok-clause-value
returns-in-Ok-clause-value c =
    numbers_given c.args.bytes.now c.args.header.now (asked_in c.args.domain.now c.args.field.now) c.as_slice.result.now c.shape_of-shape.result.now c.in-Ok.values.items
    refl c.as_slice.ensures.value c.shape_of-shape.ensures c.in-Ok.ensures.values

pub returns-in-Ok-clause-size : goal.returns-in-Ok-clause-size
returns-in-Ok-clause-size c =
    ap (λ (vs : List ℤ). length vs)
    (numbers_given c.args.bytes.now c.args.header.now (asked_in c.args.domain.now c.args.field.now) c.as_slice.result.now c.shape_of-shape.result.now c.in-Ok.values.items
    refl c.as_slice.ensures.value c.shape_of-shape.ensures c.in-Ok.ensures.values)
    ∙ length-ints (product (shape_in c.args.domain.now c.args.field.now)) (bytes_read (slab_read c.args.bytes.now c.args.header.now (asked_in c.args.domain.now c.args.field.now)))
