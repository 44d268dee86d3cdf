use Rattle.std.proofs.Common.{arith, ◌-◌}
use Rattle.wf_top.proofs.DomainLaws.{size_then, up_to_more, at_start}
use Rattle.wf_top.proofs.patches.Patches.exchange_west.Goals as goal

pub loop-p-preserved : goal.loop-p-preserved
loop-p-preserved c =
    let p = c.loop-p.p in
    let start = c.args.self.now in
    let old = c.loop-p.self in
    let new = c.take_from_west.new.self in
    record {
      domain = c.take_from_west.ensures.domain;
      size = size_then start old new c.loop-p.invariant.size c.take_from_west.ensures.size;
      hold = λ own west east h.
          up_to_more p own own east start old new c.take_from_west.ensures.size c.take_from_west.ensures.others
          (λ other. c.take_from_west.ensures.taken own west east other
          ((c.loop-p.invariant.hold own west east h).done (p - 1) other (omega (arith, c.loop-p.auto.p))).inside
          (at_start p p own west east own own east start old c.loop-p.invariant.size (c.loop-p.invariant.hold own west east h) h (omega arith) (omega (arith, c.loop-p.invariant.size.count)) other))
          (c.loop-p.invariant.hold own west east h);
    }

pub returns-clause-exchanged : goal.returns-clause-exchanged
returns-clause-exchanged c = λ own west east h q hq other. (c.loop-p.invariant.hold own west east h).done q other (omega (arith, c.loop-p-test.false, hq))
