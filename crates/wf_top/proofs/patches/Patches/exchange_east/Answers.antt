use Rattle.std.proofs.Common.{arith, ◌≡◌, ◌+◌, ◌<◌, length, get_or, inl, inr}
use Rattle.std.proofs.lemmas.Bool.{cases_lt}
use Rattle.wf_top.proofs.DomainLaws.{size_then, up_to_more, at_start, holds_last}
use Rattle.wf_top.proofs.patches.Patches.exchange_east.Goals as goal

pub loop-p-preserved : goal.loop-p-preserved
loop-p-preserved c =
    let p = c.loop-p.p in
    let start = c.args.self.now in
    let old = c.loop-p.self in
    let new = c.take_from_east.new.self in
    record {
      domain = c.take_from_east.ensures.domain;
      size = size_then start old new c.loop-p.invariant.size c.take_from_east.ensures.size;
      hold = λ own west east h.
          up_to_more p own west own start old new c.take_from_east.ensures.size c.take_from_east.ensures.others
          (λ other. c.take_from_east.ensures.taken own west east other
          (at_start p (p + 1) own west east own west own start old c.loop-p.invariant.size (c.loop-p.invariant.hold own west east h) h (omega arith) (omega (arith, c.loop-p.invariant.size.count)) other).inside
          (at_start p p own west east own west own start old c.loop-p.invariant.size (c.loop-p.invariant.hold own west east h) h (omega arith) (omega (arith, c.loop-p.invariant.size.count)) other))
          (c.loop-p.invariant.hold own west east h);
    }

pub returns-clause-exchanged : goal.returns-clause-exchanged
returns-clause-exchanged c = λ own west east h q hq other.
    let up = c.loop-p.invariant.hold own west east h in
    let start = c.args.self.now in
    let old = c.loop-p.self in
    let domain = c.loop-p.invariant.domain in
    let in_start : q < length start.patches.items = omega (arith, c.loop-p.invariant.size.count) in
    elim (cases_lt q c.loop-p.p) [
      | inl before ↦ up.done q other before
      | inr past ↦
          let last : q + 1 ≡ length old.patches.items = omega (arith, c.loop-p-test.false, c.loop-p.invariant.size.count) in
          holds_last old.nx old.ny (length old.patches.items) q own west east (get_or old.patches.items q other) domain.some last (domain.each q hq other)
          (at_start c.loop-p.p q own west east own west own start old c.loop-p.invariant.size up h past in_start other)
    ]
