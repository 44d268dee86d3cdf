use Rattle.std.proofs.Common.{◌≡◌, ◌*◌, ◌++◌, drop}
use Rattle.wf_stream.proofs.RowLemmas.{planes}
use Rattle.wf_stream.proofs.own_points.own_points.Given as goal

abbrev pub invariant-loop : goal.invariant-loop
invariant-loop l = record {
  from : l.from ≡ l.counter * (l.extents.file_rows * l.extents.file_columns);
  place : l.place ≡ l.counter * (l.extents.rows * l.extents.columns);
  items : l.values.items ≡ planes l.fn.values.items l.counter l.extents.rows l.extents.columns l.extents.file_rows l.extents.file_columns ++ drop l.place l.fn.values.items;
}
