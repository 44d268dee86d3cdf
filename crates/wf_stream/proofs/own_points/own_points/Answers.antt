use Rattle.std.proofs.Common.{◌*◌, sym, arith}
use Rattle.std.proofs.Math.Nat.{zero-mul}
use Rattle.wf_stream.proofs.RowLemmas.{after_within, all_moved, next_place_at, next_within, place_before, place_within, plane_more, planes-none}
use Rattle.wf_stream.proofs.own_points.own_points.Goals as goal

pub loop-init : goal.loop-init
loop-init c = record {
  from = sym (zero-mul (c.args.extents.file_rows * c.args.extents.file_columns));
  place = sym (zero-mul (c.args.extents.rows * c.args.extents.columns));
  items = planes-none c.args.values.items c.args.extents.rows c.args.extents.columns c.args.extents.file_rows c.args.extents.file_columns;
}

pub move_rows-requires-clause-before : goal.move_rows-requires-clause-before
move_rows-requires-clause-before c =
    place_before c.args.values.items c.loop.values.items c.args.extents.levels c.args.extents.rows c.args.extents.columns c.args.extents.file_rows c.args.extents.file_columns
    c.loop.from c.loop.place c.loop.counter c.requires.rows c.requires.columns c.requires.size c.loop.invariant.from c.loop.invariant.place (omega arith) c.loop.invariant.items

pub move_rows-requires-clause-within : goal.move_rows-requires-clause-within
move_rows-requires-clause-within c =
    next_within c.args.values.items c.loop.values.items c.args.extents.levels c.args.extents.rows c.args.extents.columns c.args.extents.file_rows c.args.extents.file_columns
    c.loop.from c.loop.place c.loop.counter c.requires.rows c.requires.columns c.requires.size c.loop.invariant.from c.loop.invariant.place (omega arith) c.loop.invariant.items c.loop-test.true

pub overflow_add-from : goal.overflow_add-from
overflow_add-from c =
    let within = after_within c.args.values.items c.loop.values.items c.args.extents.levels c.args.extents.rows c.args.extents.columns c.args.extents.file_rows c.args.extents.file_columns
    c.loop.from c.loop.place c.loop.counter c.requires.rows c.requires.columns c.requires.size c.loop.invariant.from c.loop.invariant.place (omega arith) c.loop.invariant.items c.loop-test.true in
    omega (arith, within, c.args.values.ok)

pub overflow_add-place : goal.overflow_add-place
overflow_add-place c =
    let within = place_within c.args.values.items c.loop.values.items c.args.extents.levels c.args.extents.rows c.args.extents.columns c.args.extents.file_rows c.args.extents.file_columns
    c.loop.from c.loop.place c.loop.counter c.requires.rows c.requires.columns c.requires.size c.loop.invariant.from c.loop.invariant.place (omega arith) c.loop.invariant.items c.loop-test.true in
    omega (arith, within, c.args.values.ok)

pub loop-preserved : goal.loop-preserved
loop-preserved c = record {
  from = next_place_at c.loop.from c.loop.counter (c.args.extents.file_rows * c.args.extents.file_columns) c.loop.invariant.from;
  place = next_place_at c.loop.place c.loop.counter (c.args.extents.rows * c.args.extents.columns) c.loop.invariant.place;
  items = plane_more c.args.values.items c.loop.values.items c.args.extents.levels c.args.extents.rows c.args.extents.columns c.args.extents.file_rows c.args.extents.file_columns
      c.loop.from c.loop.place c.loop.counter c.requires.rows c.requires.columns c.requires.size c.loop.invariant.from c.loop.invariant.place (omega arith) c.loop.invariant.items
      c.move_rows.new.values.items c.move_rows.ensures;
}

pub returns : goal.returns
returns c =
    all_moved c.args.values.items c.loop.values.items c.args.extents.levels c.args.extents.rows c.args.extents.columns c.args.extents.file_rows c.args.extents.file_columns
    c.loop.from c.loop.place c.loop.counter c.requires.rows c.requires.columns c.requires.size c.loop.invariant.from c.loop.invariant.place (omega arith) c.loop.invariant.items
    (omega arith) c.truncate.new.self.items c.truncate.ensures.items
