use Rattle.std.proofs.Common.{◌≡◌, ◌+◌, ◌*◌, ◌++◌, take, drop}
use Rattle.wf_stream.specs.Levels.{rows_from}
use Rattle.wf_stream.proofs.own_points.move_rows.Given as goal

abbrev pub invariant-loop : goal.invariant-loop
invariant-loop l = record {
  row : l.row ≡ l.from + l.counter * l.width;
  next : l.next ≡ l.place + l.counter * l.kept;
  items : l.values.items ≡ (take l.place l.initial.values.items ++ rows_from l.initial.values.items l.from l.counter l.kept l.width) ++ drop l.next l.initial.values.items;
}
