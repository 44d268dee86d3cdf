use Rattle.std.proofs.Common.{◌+◌, sym, ap, ◌∙◌, arith}
use Rattle.wf_grid.specs.Stepped.{Left, left_by_step, left_by_steps}
use Rattle.wf_grid.proofs.Steps.{goes_on, stops, ends}
use Rattle.wf_grid.proofs.whole.settle_levels.Goals as goal

pub returns-in-Some-clause-point : goal.returns-in-Some-clause-point
returns-in-Some-clause-point g c =
    ap (λ (l : Left). l.point)
    (stops (λ n ls. left_by_step c.args.plan.now g.M.Meanings.answer 1 (c.args.before + n + 1) ls) c.loop-n.n c.args.plan.now.steps c.loop-n.levels c.take_step.new.levels (left_by_steps c.args.plan.now g.M.Meanings.answer 1 c.args.before c.args.levels.now) c.in-Some.point c.loop-n-test.true
    c.loop-n.invariant.rest (sym c.in-Some.is ∙ c.take_step.ensures.point) c.take_step.ensures.lists)

pub returns-in-Some-clause-lists : goal.returns-in-Some-clause-lists
returns-in-Some-clause-lists g c =
    ap (λ (l : Left). l.lists)
    (stops (λ n ls. left_by_step c.args.plan.now g.M.Meanings.answer 1 (c.args.before + n + 1) ls) c.loop-n.n c.args.plan.now.steps c.loop-n.levels c.take_step.new.levels (left_by_steps c.args.plan.now g.M.Meanings.answer 1 c.args.before c.args.levels.now) c.in-Some.point c.loop-n-test.true
    c.loop-n.invariant.rest (sym c.in-Some.is ∙ c.take_step.ensures.point) c.take_step.ensures.lists)

pub loop-n-preserved : goal.loop-n-preserved
loop-n-preserved g c =
    record {
      are = c.take_step.ensures.are;
      room = λ f h. omega (arith, c.loop-n.invariant.room f h, c.take_step.ensures.scratch);
      rest = goes_on (λ n ls. left_by_step c.args.plan.now g.M.Meanings.answer 1 (c.args.before + n + 1) ls) c.loop-n.n c.args.plan.now.steps c.loop-n.levels c.take_step.new.levels (left_by_steps c.args.plan.now g.M.Meanings.answer 1 c.args.before c.args.levels.now) c.loop-n-test.true
          c.loop-n.invariant.rest (sym c.in_default.is ∙ c.take_step.ensures.point) c.take_step.ensures.lists;
    }

pub returns-clause-point : goal.returns-clause-point
returns-clause-point g c =
    ap (λ (l : Left). l.point) (ends (λ n ls. left_by_step c.args.plan.now g.M.Meanings.answer 1 (c.args.before + n + 1) ls) c.loop-n.n c.args.plan.now.steps c.loop-n.levels c.loop-n.levels (left_by_steps c.args.plan.now g.M.Meanings.answer 1 c.args.before c.args.levels.now) c.loop-n-test.false c.loop-n.invariant.rest)

pub returns-clause-lists : goal.returns-clause-lists
returns-clause-lists g c =
    ap (λ (l : Left). l.lists) (ends (λ n ls. left_by_step c.args.plan.now g.M.Meanings.answer 1 (c.args.before + n + 1) ls) c.loop-n.n c.args.plan.now.steps c.loop-n.levels c.loop-n.levels (left_by_steps c.args.plan.now g.M.Meanings.answer 1 c.args.before c.args.levels.now) c.loop-n-test.false c.loop-n.invariant.rest)
