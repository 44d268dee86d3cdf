use Rattle.std.proofs.Common.{arith, ◌+◌}
use Rattle.wf_model.specs.Demo.{demo_value}
use Rattle.wf_top.proofs.DomainLaws.{size_then, up_to_more, at_start, steps_along, steps_back}
use Rattle.wf_top.proofs.patches.Patches.step_each.Goals as goal

pub step_patch-requires-clause-grid : goal.step_patch-requires-clause-grid
step_patch-requires-clause-grid c =
    let n = c.requires.grid.0 in
    let start = c.args.self.now in
    let old = c.loop-p.self in
    let g = demo_value start.nx start.ny n in
    let after = demo_value start.nx start.ny (n + 1) in (
      n,
      λ other. steps_along start old n n c.loop-p.invariant.size _
          (at_start c.loop-p.p c.loop-p.p g g g after g g start old c.loop-p.invariant.size (c.loop-p.invariant.hold n c.requires.grid.1) c.requires.grid.1 (omega arith) (omega (arith, c.loop-p.invariant.size.count)) other),
    )

pub loop-p-preserved : goal.loop-p-preserved
loop-p-preserved c =
    let p = c.loop-p.p in
    let start = c.args.self.now in
    let old = c.loop-p.self in
    let new = c.step_patch.new.self in
    record {
      domain = c.step_patch.ensures.domain;
      size = size_then start old new c.loop-p.invariant.size c.step_patch.ensures.size;
      hold = λ n h.
          let g = demo_value start.nx start.ny n in
          let after = demo_value start.nx start.ny (n + 1) in
          up_to_more p after g g start old new c.step_patch.ensures.size c.step_patch.ensures.others
          (λ other. steps_back start old (n + 1) n c.loop-p.invariant.size _ (c.step_patch.ensures.stepped n other
          (steps_along start old n n c.loop-p.invariant.size _ (at_start p p g g g after g g start old c.loop-p.invariant.size (c.loop-p.invariant.hold n h) h (omega arith) (omega (arith, c.loop-p.invariant.size.count)) other))))
          (c.loop-p.invariant.hold n h);
    }

pub returns-clause-stepped : goal.returns-clause-stepped
returns-clause-stepped c = λ n h q hq other.
    steps_along c.args.self.now c.loop-p.self (n + 1) n c.loop-p.invariant.size _ ((c.loop-p.invariant.hold n h).done q other (omega (arith, c.loop-p-test.false, hq)))
