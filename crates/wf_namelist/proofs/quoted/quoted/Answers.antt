use Rattle.std.proofs.Common.{◌+◌, ◌<◌, ◌≢◌, get_or, length, arith, refl}
use Rattle.wf_namelist.proofs.QuotedTexts.{next_other, next_line_end, next_doubled, next_closing, at_end}
use Rattle.wf_namelist.proofs.quoted.quoted.Goals as goal
use Rattle.wf_namelist.proofs.quoted.quoted.Goals.{else-at-bytes-via-then-at-bytes+else-bytes-at, else-at-bytes-via-else-at-bytes}

pub returns-then-byte-eq10-clause-text : goal.returns-then-byte-eq10-clause-text
returns-then-byte-eq10-clause-text c =
    next_line_end c.loop-at.text.items c.args.quote (get_or c.args.bytes.now c.loop-at.at 0) c.loop-at.at c.args.bytes.now _ c.requires c.loop-at-test.true refl c.if-byte-eq10.true c.loop-at.invariant.same

pub loop-at-preserved-then-byte-quote : goal.loop-at-preserved-then-byte-quote
loop-at-preserved-then-byte-quote c = record {
  within = omega arith;
  same = rw c.in_ok-push.ensures.items (next_other c.loop-at.text.items c.args.quote (get_or c.args.bytes.now c.loop-at.at 0) c.loop-at.at c.args.bytes.now _ c.loop-at-test.true refl c.if-byte-eq10.false c.if-byte-quote.true c.loop-at.invariant.same);
}

pub loop-at-preserved : goal.loop-at-preserved
loop-at-preserved c = record {
  within = omega arith;
  same = rw c.in_ok-push-2.ensures.items (next_doubled c.loop-at.text.items c.args.quote (get_or c.args.bytes.now c.loop-at.at 0) c.loop-at.at c.args.bytes.now _ c.requires c.if-at-bytes.true refl c.if-byte-quote.false c.if-bytes-at.true c.loop-at.invariant.same);
}

pub returns-else-at-bytes-clause-text : goal.returns-else-at-bytes-clause-text
returns-else-at-bytes-clause-text c =
    let l = c.args.bytes.now in
    let single : c.loop-at.at + 1 < length l → get_or l (c.loop-at.at + 1) 0 ≢ c.args.quote =
    elim c.else-at-bytes.branch [
      | else-at-bytes-via-then-at-bytes+else-bytes-at w ↦ (λ lt e. w.if-bytes-at.false e)
      | else-at-bytes-via-else-at-bytes w ↦ (λ lt e. absurd (omega arith))
    ] in
    rw c.from_vec.ensures (next_closing c.loop-at.text.items c.args.quote (get_or l c.loop-at.at 0) c.loop-at.at l _ c.requires c.loop-at-test.true refl c.if-byte-quote.false single c.loop-at.invariant.same)

pub returns-clause-text : goal.returns-clause-text
returns-clause-text c = at_end c.loop-at.text.items c.args.quote c.loop-at.at c.args.bytes.now _ c.loop-at-test.false c.loop-at.invariant.same
