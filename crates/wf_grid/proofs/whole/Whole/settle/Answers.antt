use Rattle.std.proofs.Common.{◌≡◌, List, length, take, drop, set, get_or, ◌++◌, sym, ap, subst, ◌∙◌, arith}
use Rattle.std.specs.Prelude.{ℤ}
use Rattle.std.specs.List.{All}
use Rattle.wf_model.specs.Outcome.{outcome_of, no_lists}
use Rattle.wf_grid.specs.Stepped.{Left, left_by_steps}
use Rattle.wf_grid.specs.Held.{Held, run_of, held_with, all_lists, point_at_end, grids_at_end, IsReady}
use Rattle.wf_grid.proofs.Ready.{ready_after, lent_back, lent_back_at}
use Rattle.wf_grid.proofs.SettledRun.{settled, holds}
use Rattle.wf_grid.specs.Takeable.{CallsAreAccepted}
use Rattle.wf_grid.proofs.whole.Whole.settle.Goals as goal

pub invariant_of-self : goal.invariant_of-self
invariant_of-self g c =
    let w = c.self.inside in
    let all : length c.settle_first.new.grids ≡ length c.self.inside.initial.grids = c.settle_first.ensures.length ∙ ap length c.as_mut_slice.ensures.value in
    let used : length c.settle_first.new.scratch ≡ length c.self.inside.scratch.items = c.settle_first.ensures.scratch ∙ ap length c.as_mut_slice-2.ensures.value in
    let grids = lent_back w.initial.grids c.settle_first.new.grids all in
    let scratch = lent_back_at w.scratch.len w.scratch.items c.settle_first.new.scratch (omega arith) used in
    subst (λ (gs : List (List (List ℤ))). IsReady w.plan (record { grids = gs; begins = w.initial.begins }) (take w.scratch.len (c.settle_first.new.scratch ++ drop (length c.settle_first.new.scratch) w.scratch.items))) (sym grids)
    (subst (λ (us : List ℤ). IsReady w.plan (record { grids = c.settle_first.new.grids; begins = w.initial.begins }) us) (sym scratch)
    (ready_after w.plan w.initial w.scratch.items c.settle_first.new.grids c.settle_first.new.scratch c.self.invariant (all ∙ c.self.invariant.domains) c.settle_first.ensures.are used))

pub settle_first-requires-clause-calls : goal.settle_first-requires-clause-calls
settle_first-requires-clause-calls g c κs l = subst (λ (w : Held). All (CallsAreAccepted g.M.Meanings.accepts) w.plan.items) (sym c.self.view_is) c.requires

pub returns-clause-point : goal.returns-clause-point
returns-clause-point g c =
    let w : Held = record { plan = c.self.inside.plan; initial = c.self.inside.initial } in
    let is : record { plan = c.self.inside.plan; initial = c.self.inside.initial } ≡ c.args.self.now = c.self.view_is in
    subst (λ (v : Held). c.settle_first.result ≡ point_at_end (outcome_of (run_of v g.M.Meanings.answer))) is
    (c.settle_first.ensures.point ∙ (λ i. (left_by_steps c.self.inside.plan g.M.Meanings.answer 1 (c.steps_before-before.ensures i) (get_or (c.as_mut_slice.ensures.value i) 0 no_lists)).point)
    ∙ ap (λ (l : Left). l.point) (settled w g.M.Meanings.answer c.self.inside.scratch.items c.self.invariant))

pub returns-clause-numbers : goal.returns-clause-numbers
returns-clause-numbers g c =
    let w : Held = record { plan = c.self.inside.plan; initial = c.self.inside.initial } in
    let is : record { plan = c.self.inside.plan; initial = c.self.inside.initial } ≡ c.args.self.now = c.self.view_is in
    let all : length c.settle_first.new.grids ≡ length c.self.inside.initial.grids = c.settle_first.ensures.length ∙ ap length c.as_mut_slice.ensures.value in
    let grids = lent_back c.self.inside.initial.grids c.settle_first.new.grids all in
    subst (λ (v : Held). record { plan = c.self.inside.plan; initial = record { grids = take (length c.self.inside.initial.grids) (c.settle_first.new.grids ++ drop (length c.settle_first.new.grids) c.self.inside.initial.grids); begins = c.self.inside.initial.begins } }
    ≡ held_with v (all_lists v.plan (grids_at_end (run_of v g.M.Meanings.answer) (outcome_of (run_of v g.M.Meanings.answer))))) is
    ((λ i. record { plan = c.self.inside.plan; initial = record { grids = grids i; begins = c.self.inside.initial.begins } })
    ∙ holds w g.M.Meanings.answer c.self.inside.scratch.items c.self.invariant c.settle_first.new.grids
    (c.settle_first.ensures.numbers ∙ (λ i. set (c.as_mut_slice.ensures.value i) 0 (left_by_steps c.self.inside.plan g.M.Meanings.answer 1 (c.steps_before-before.ensures i) (get_or (c.as_mut_slice.ensures.value i) 0 no_lists)).lists)))
