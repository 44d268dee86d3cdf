use Rattle.std.proofs.Common.{arith}
use Rattle.std.proofs.Math.Nat.{zero-mul}
use Rattle.wf_stream.proofs.RowLemmas.{move_more, move_start, next_place}
use Rattle.wf_stream.proofs.own_points.move_rows.Goals as goal

pub loop-init : goal.loop-init
loop-init c = record {
  row = omega (arith, zero-mul c.args.width);
  next = omega (arith, zero-mul c.args.kept);
  items = move_start c.args.values.now.items c.args.from c.args.place c.args.kept c.args.width c.requires.before;
}

pub loop-preserved : goal.loop-preserved
loop-preserved c = record {
  row = next_place c.args.from c.loop.row c.loop.counter c.args.width c.loop.invariant.row;
  next = next_place c.args.place c.loop.next c.loop.counter c.args.kept c.loop.invariant.next;
  items = move_more c.args.values.now.items c.loop.values.items c.copy_within.new.self.items c.args.from c.args.place c.loop.row c.loop.next c.args.kept c.args.width c.loop.counter c.args.rows
      c.requires.before c.requires.narrow c.loop-test.true c.requires.within c.loop.invariant.row c.loop.invariant.next c.loop.invariant.items c.copy_within.ensures.items;
}
