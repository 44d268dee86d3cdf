use Rattle.std.proofs.Common.{ℕ, ◌≤◌, length, map, get_or, ap, ◌∙◌, arith}
use Rattle.std.proofs.lemmas.List.{take_all}
use Rattle.wf_model.specs.Sound.{IsLevel}
use Rattle.wf_grid.proofs.Shaped.{stream_few, fields_are, field_level}
use Rattle.wf_grid.proofs.file_shape.slabs_of.Goals as goal

pub stream_levels-requires : goal.stream_levels-requires
stream_levels-requires g c = stream_few g.N.RunName.run c.args.frame.now c.requires.steppable c.requires.frame

pub overflow_cast-field : goal.overflow_cast-field
overflow_cast-field g c =
    let r = g.N.RunName.run in
    let small = c.requires.steppable.sound.ranged.limits.levels in
    let level : IsLevel r.plan (get_or c.deref-field-items.result.now c.loop-field.field-index 0)
    = field_level r c.plan.result.now c.plan.ensures c.args.frame.now.stream c.deref-field-items.result.now c.in_ok-fields.fields.items c.deref-field-items.ensures.value c.in_ok-fields.ensures.levels c.loop-field.field-index c.loop-field-test.true in
    omega (arith, level, small)

pub slab_of-requires-clause-level : goal.slab_of-requires-clause-level
slab_of-requires-clause-level g c =
    field_level g.N.RunName.run c.plan.result.now c.plan.ensures c.args.frame.now.stream c.deref-field-items.result.now c.in_ok-fields.fields.items c.deref-field-items.ensures.value c.in_ok-fields.ensures.levels c.loop-field.field-index c.loop-field-test.true

pub returns : goal.returns
returns g c =
    let r = g.N.RunName.run in
    let all : length c.deref-field-items.result.now ≤ c.loop-field.field-index = omega arith in
    c.loop-field.invariant
    ∙ ap (map (λ (f : ℕ). (c.args.frame.now.number, f))) (take_all c.loop-field.field-index c.deref-field-items.result.now all
    ∙ fields_are r c.plan.result.now c.plan.ensures c.args.frame.now.stream c.deref-field-items.result.now c.in_ok-fields.fields.items c.deref-field-items.ensures.value c.in_ok-fields.ensures.levels)
