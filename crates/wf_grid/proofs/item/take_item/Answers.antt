use Rattle.std.proofs.Common.{sym, ap, subst, ◌∙◌}
use Rattle.std.specs.List.{swap}
use Rattle.wf_grid.specs.Stepped.{Left}
use Rattle.wf_model.specs.Plans.{item_of, no_item}
use Rattle.wf_grid.specs.Takeable.{CallsAreAccepted, IsPair, IsTakeable}
use Rattle.wf_grid.proofs.Items.{idle_left, swap_left_is, swap_exchanges, phase_point, phase_lists}
use Rattle.wf_grid.proofs.item.take_item.Goals as goal

pub returns-in-Halo-clause-point : goal.returns-in-Halo-clause-point
returns-in-Halo-clause-point g c = ap (λ (l : Left). l.point) (sym (idle_left c.args.plan.now g.M.Meanings.answer c.args.number c.args.step c.args.place c.args.levels.now c.item.result.now c.requires.lists (sym c.item.ensures) c.in-Halo.is))

pub returns-in-Halo-clause-lists : goal.returns-in-Halo-clause-lists
returns-in-Halo-clause-lists g c = ap (λ (l : Left). l.lists) (sym (idle_left c.args.plan.now g.M.Meanings.answer c.args.number c.args.step c.args.place c.args.levels.now c.item.result.now c.requires.lists (sym c.item.ensures) c.in-Halo.is))

pub returns-in-Halo-2-clause-point : goal.returns-in-Halo-2-clause-point
returns-in-Halo-2-clause-point g c = ap (λ (l : Left). l.point) (sym (idle_left c.args.plan.now g.M.Meanings.answer c.args.number c.args.step c.args.place c.args.levels.now c.item.result.now c.requires.lists (sym c.item.ensures) c.in-Halo.is))

pub returns-in-Halo-2-clause-lists : goal.returns-in-Halo-2-clause-lists
returns-in-Halo-2-clause-lists g c = ap (λ (l : Left). l.lists) (sym (idle_left c.args.plan.now g.M.Meanings.answer c.args.number c.args.step c.args.place c.args.levels.now c.item.result.now c.requires.lists (sym c.item.ensures) c.in-Halo.is))

pub run_phase-here-requires-clause-calls : goal.run_phase-here-requires-clause-calls
unfolding item_of
run_phase-here-requires-clause-calls g c κs l =
    subst (CallsAreAccepted g.M.Meanings.accepts) (sym c.item.ensures ∙ c.in-Phase.is) (c.requires.calls c.args.place no_item c.requires.item)

pub returns-in-Phase-clause-point : goal.returns-in-Phase-clause-point
returns-in-Phase-clause-point g c =
    c.named.ensures ∙ phase_point c.args.plan.now g.M.Meanings.answer c.args.number c.args.step c.args.place c.args.levels.now c.in-Phase.phase (sym c.item.ensures ∙ c.in-Phase.is) c.run_phase-here.result c.run_phase-here.ensures.point

pub returns-in-Phase-clause-lists : goal.returns-in-Phase-clause-lists
returns-in-Phase-clause-lists g c =
    phase_lists c.args.plan.now g.M.Meanings.answer c.args.number c.args.step c.args.place c.args.levels.now c.in-Phase.phase (sym c.item.ensures ∙ c.in-Phase.is) c.run_phase-here.result c.run_phase-here.ensures.point c.run_phase-here.new.levels c.run_phase-here.ensures.lists

pub returns-in-Swap-clause-point : goal.returns-in-Swap-clause-point
returns-in-Swap-clause-point g c =
    let is = sym c.item.ensures ∙ c.in-Swap.is in
    let pair : IsPair c.args.plan.now c.args.number c.in-Swap.one c.in-Swap.two = subst (IsTakeable c.args.plan.now c.args.number) is (c.requires.table.items c.args.place c.requires.item) in
    ap (λ (l : Left). l.point) (sym (swap_left_is c.args.plan.now g.M.Meanings.answer c.args.number c.args.step c.args.place c.in-Swap.one c.in-Swap.two c.args.levels.now c.requires.lists pair (swap c.args.levels.now c.in-Swap.one c.in-Swap.two)
    (swap_exchanges c.args.plan.now g.M.Meanings.answer c.args.number c.args.step c.args.place c.in-Swap.one c.in-Swap.two c.args.levels.now c.requires.lists pair) is))

pub returns-in-Swap-clause-lists : goal.returns-in-Swap-clause-lists
returns-in-Swap-clause-lists g c =
    let is = sym c.item.ensures ∙ c.in-Swap.is in
    let pair : IsPair c.args.plan.now c.args.number c.in-Swap.one c.in-Swap.two = subst (IsTakeable c.args.plan.now c.args.number) is (c.requires.table.items c.args.place c.requires.item) in
    c.swap.ensures.after ∙ ap (λ (l : Left). l.lists) (sym (swap_left_is c.args.plan.now g.M.Meanings.answer c.args.number c.args.step c.args.place c.in-Swap.one c.in-Swap.two c.args.levels.now c.requires.lists pair (swap c.args.levels.now c.in-Swap.one c.in-Swap.two)
    (swap_exchanges c.args.plan.now g.M.Meanings.answer c.args.number c.args.step c.args.place c.in-Swap.one c.in-Swap.two c.args.levels.now c.requires.lists pair) is))
