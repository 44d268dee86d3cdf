use Rattle.std.proofs.Common.{◌≡◌, map, take, Ok}
use Rattle.wf_stream.specs.StoreWrites.{HasRoom, Wrote, appends, part_of, with_parts}
use Rattle.wf_stream.proofs.record.append_slabs.Given as goal

abbrev pub invariant-loop-slab : goal.invariant-loop-slab
invariant-loop-slab g l = record {
  wrote : Wrote {X = Unit {0}} (appends l.name (map (part_of g.N.RunName.run g.N.RunName.layout) (take l.slab-index l.slabs))) l.name (g.S.Store.files l.fn.store) (g.S.Store.files l.store) (g.S.Store.faults l.fn.store) (g.S.Store.faults l.store) (g.S.Store.failed l.store) (Ok tt);
  room : HasRoom l.name (g.S.Store.files l.store);
  totals : l.counted ≡ with_parts l.fn.totals (map (part_of g.N.RunName.run g.N.RunName.layout) (take l.slab-index l.slabs));
}
