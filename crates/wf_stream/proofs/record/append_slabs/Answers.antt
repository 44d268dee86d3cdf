use Rattle.wf_stream.specs.StoreWrites.{part_of}
use Rattle.wf_stream.proofs.RecordLaws.{totals_more, wrote_more, wrote_among}
use Rattle.wf_stream.proofs.record.append_slabs.Goals as goal

pub loop-slab-preserved : goal.loop-slab-preserved
loop-slab-preserved g c =
    let part = part_of g.N.RunName.run g.N.RunName.layout in
    record {
      wrote = wrote_more part c.args.slabs.now c.loop-slab.slab-index c.slab-item.result c.loop-slab-test.true c.slab-item.is c.args.name.now (g.S.Store.files c.args.store.now) (g.S.Store.files c.loop-slab.store) (g.S.Store.files c.append_slab.new.store)
          (g.S.Store.faults c.args.store.now) (g.S.Store.faults c.loop-slab.store) (g.S.Store.faults c.append_slab.new.store) (g.S.Store.failed c.loop-slab.store) (g.S.Store.failed c.append_slab.new.store) c.in-Ok.more c.loop-slab.invariant.wrote c.in-Ok.ensures.wrote;
      room = c.in-Ok.ensures.room;
      totals = totals_more part c.args.slabs.now c.loop-slab.slab-index c.slab-item.result c.loop-slab-test.true c.slab-item.is c.args.totals c.loop-slab.counted c.in-Ok.more c.loop-slab.invariant.totals c.in-Ok.ensures.totals;
    }

pub returns-in-Err-clause-wrote : goal.returns-in-Err-clause-wrote
returns-in-Err-clause-wrote g c =
    wrote_among (part_of g.N.RunName.run g.N.RunName.layout) c.args.slabs.now c.loop-slab.slab-index c.slab-item.result c.loop-slab-test.true c.slab-item.is c.args.name.now (g.S.Store.files c.args.store.now) (g.S.Store.files c.loop-slab.store) (g.S.Store.files c.append_slab.new.store)
    (g.S.Store.faults c.args.store.now) (g.S.Store.faults c.loop-slab.store) (g.S.Store.faults c.append_slab.new.store) (g.S.Store.failed c.loop-slab.store) (g.S.Store.failed c.append_slab.new.store) c.in-Err.error c.loop-slab.invariant.wrote c.in-Err.ensures.wrote
