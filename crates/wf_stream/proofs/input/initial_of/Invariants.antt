use Rattle.std.proofs.Common.{◌≡◌, ◌++◌, map}
use Rattle.std.specs.Vec.Iter.{into_iter_items}
use Rattle.wf_stream.specs.declared.input_file.DomainStart.{DomainStart}
use Rattle.wf_stream.proofs.input.initial_of.Given as goal

abbrev pub invariant-loop-start : goal.invariant-loop-start
invariant-loop-start l = record {
  grids : l.grids.items ++ map DomainStart.grids (into_iter_items l.start-iterator) ≡ map DomainStart.grids l.fn.starts.items;
  begins : l.begins.items ++ map DomainStart.begin (into_iter_items l.start-iterator) ≡ map DomainStart.begin l.fn.starts.items;
}
