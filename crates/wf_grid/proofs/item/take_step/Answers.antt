use Rattle.std.proofs.Common.{◌<◌, ◌≤◌, length, sym, ap, subst, ◌∙◌, arith}
use Rattle.wf_grid.specs.Levels.{AreLists}
use Rattle.wf_grid.specs.Stepped.{Left, left_by_item, left_by_step}
use Rattle.wf_grid.proofs.Steps.{goes_on, stops, ends, item_are}
use Rattle.wf_grid.proofs.item.take_step.Goals as goal

pub returns-in-Some-clause-point : goal.returns-in-Some-clause-point
returns-in-Some-clause-point g c =
    let small : c.loop-place.place < length c.args.plan.now.items = omega (arith, ap length c.as_slice.ensures) in
    ap (λ (l : Left). l.point)
    (stops (left_by_item c.args.plan.now g.M.Meanings.answer c.args.number c.args.step) c.loop-place.place (length c.args.plan.now.items) c.loop-place.levels c.take_item.new.levels (left_by_step c.args.plan.now g.M.Meanings.answer c.args.number c.args.step c.args.levels.now) c.in-Some.point small
    c.loop-place.invariant.rest (sym c.in-Some.is ∙ c.take_item.ensures.point) c.take_item.ensures.lists)

pub returns-in-Some-clause-lists : goal.returns-in-Some-clause-lists
returns-in-Some-clause-lists g c =
    let small : c.loop-place.place < length c.args.plan.now.items = omega (arith, ap length c.as_slice.ensures) in
    ap (λ (l : Left). l.lists)
    (stops (left_by_item c.args.plan.now g.M.Meanings.answer c.args.number c.args.step) c.loop-place.place (length c.args.plan.now.items) c.loop-place.levels c.take_item.new.levels (left_by_step c.args.plan.now g.M.Meanings.answer c.args.number c.args.step c.args.levels.now) c.in-Some.point small
    c.loop-place.invariant.rest (sym c.in-Some.is ∙ c.take_item.ensures.point) c.take_item.ensures.lists)

pub returns-in-Some-clause-are : goal.returns-in-Some-clause-are
returns-in-Some-clause-are g c =
    subst (AreLists c.args.plan.now c.args.number) (sym c.take_item.ensures.lists) (item_are c.args.plan.now g.M.Meanings.answer c.args.number c.args.step c.loop-place.place c.loop-place.levels c.loop-place.invariant.are)

pub loop-place-preserved : goal.loop-place-preserved
loop-place-preserved g c =
    let small : c.loop-place.place < length c.args.plan.now.items = omega (arith, ap length c.as_slice.ensures) in
    record {
      are = subst (AreLists c.args.plan.now c.args.number) (sym c.take_item.ensures.lists) (item_are c.args.plan.now g.M.Meanings.answer c.args.number c.args.step c.loop-place.place c.loop-place.levels c.loop-place.invariant.are);
      room = λ f h. omega (arith, c.loop-place.invariant.room f h, c.take_item.ensures.scratch);
      rest = goes_on (left_by_item c.args.plan.now g.M.Meanings.answer c.args.number c.args.step) c.loop-place.place (length c.args.plan.now.items) c.loop-place.levels c.take_item.new.levels (left_by_step c.args.plan.now g.M.Meanings.answer c.args.number c.args.step c.args.levels.now) small
          c.loop-place.invariant.rest (sym c.in_default.is ∙ c.take_item.ensures.point) c.take_item.ensures.lists;
    }

pub returns-clause-point : goal.returns-clause-point
returns-clause-point g c =
    let past : length c.args.plan.now.items ≤ c.loop-place.place = omega (arith, ap length c.as_slice.ensures) in
    ap (λ (l : Left). l.point) (ends (left_by_item c.args.plan.now g.M.Meanings.answer c.args.number c.args.step) c.loop-place.place (length c.args.plan.now.items) c.loop-place.levels c.loop-place.levels (left_by_step c.args.plan.now g.M.Meanings.answer c.args.number c.args.step c.args.levels.now) past c.loop-place.invariant.rest)

pub returns-clause-lists : goal.returns-clause-lists
returns-clause-lists g c =
    let past : length c.args.plan.now.items ≤ c.loop-place.place = omega (arith, ap length c.as_slice.ensures) in
    ap (λ (l : Left). l.lists) (ends (left_by_item c.args.plan.now g.M.Meanings.answer c.args.number c.args.step) c.loop-place.place (length c.args.plan.now.items) c.loop-place.levels c.loop-place.levels (left_by_step c.args.plan.now g.M.Meanings.answer c.args.number c.args.step c.args.levels.now) past c.loop-place.invariant.rest)
