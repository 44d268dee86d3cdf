use Rattle.std.proofs.Common.{◌≡◌, ◌∙◌, arith, ap}
use Rattle.wf_stream.specs.StoreWrites.{record_parts}
use Rattle.wf_stream.specs.declared.writer.Totals.{Totals}
use Rattle.wf_stream.proofs.FrameCallLaws.{files_kept, opening_failed, record_failed, count_failed, all_written}
use Rattle.wf_stream.proofs.frame_calls.write_calls.Goals as goal

pub returns-in-Err-clause-wrote : goal.returns-in-Err-clause-wrote
returns-in-Err-clause-wrote g c =
    opening_failed g.N.RunName.run c.args.frame.now c.store_name-name.result.now (record_parts g.N.RunName.run g.N.RunName.layout c.args.frame.now.time c.args.slabs.now) (c.store_name-name.ensures ∙ c.as_slice.ensures) c.requires.parts
    (g.S.Store.files c.args.store.now) (g.S.Store.files c.open_file.new.store) (g.S.Store.faults c.args.store.now) (g.S.Store.faults c.open_file.new.store) (g.S.Store.failed c.open_file.new.store) c.in-Err.error c.in-Err.ensures.wrote

pub returns-in-Err-append_record-clause-wrote : goal.returns-in-Err-append_record-clause-wrote
returns-in-Err-append_record-clause-wrote g c =
    record_failed g.N.RunName.run c.args.frame.now c.store_name-name.result.now (record_parts g.N.RunName.run g.N.RunName.layout c.args.frame.now.time c.args.slabs.now) (c.store_name-name.ensures ∙ c.as_slice.ensures) c.requires.parts
    (g.S.Store.files c.args.store.now) (g.S.Store.files c.open_file.new.store) (g.S.Store.files c.append_record.new.store) (g.S.Store.faults c.args.store.now) (g.S.Store.faults c.open_file.new.store) (g.S.Store.faults c.append_record.new.store)
    (g.S.Store.failed c.open_file.new.store) (g.S.Store.failed c.append_record.new.store) c.in-Ok.ensures.wrote c.in-Err-append_record.error c.in-Err-append_record.ensures.wrote

pub with_record-requires : goal.with_record-requires
with_record-requires g c =
    let kept : c.in-Ok-append_record.counted.files ≡ c.args.totals.files = ap (λ (t : Totals). t.files) c.in-Ok-append_record.ensures.totals ∙ files_kept c.args.totals (record_parts g.N.RunName.run g.N.RunName.layout c.args.frame.now.time c.args.slabs.now) in
    omega (arith, c.requires.files)

pub returns-in-Ok-write_count-clause-wrote : goal.returns-in-Ok-write_count-clause-wrote
returns-in-Ok-write_count-clause-wrote g c =
    all_written g.N.RunName.run c.args.frame.now c.store_name-name.result.now (record_parts g.N.RunName.run g.N.RunName.layout c.args.frame.now.time c.args.slabs.now) (c.store_name-name.ensures ∙ c.as_slice.ensures) c.requires.parts
    (g.S.Store.files c.args.store.now) (g.S.Store.files c.open_file.new.store) (g.S.Store.files c.append_record.new.store) (g.S.Store.faults c.args.store.now) (g.S.Store.faults c.open_file.new.store) (g.S.Store.faults c.append_record.new.store)
    (g.S.Store.failed c.open_file.new.store) (g.S.Store.failed c.append_record.new.store) c.in-Ok.ensures.wrote (g.S.Store.files c.write_count.new.store) (g.S.Store.faults c.write_count.new.store) (g.S.Store.failed c.write_count.new.store)
    c.in-Ok-append_record.counted c.in-Ok-append_record.ensures.wrote c.with_record.result c.in-Ok-write_count.ensures

pub returns-in-Err-write_count-clause-wrote : goal.returns-in-Err-write_count-clause-wrote
returns-in-Err-write_count-clause-wrote g c =
    count_failed g.N.RunName.run c.args.frame.now c.store_name-name.result.now (record_parts g.N.RunName.run g.N.RunName.layout c.args.frame.now.time c.args.slabs.now) (c.store_name-name.ensures ∙ c.as_slice.ensures) c.requires.parts
    (g.S.Store.files c.args.store.now) (g.S.Store.files c.open_file.new.store) (g.S.Store.files c.append_record.new.store) (g.S.Store.faults c.args.store.now) (g.S.Store.faults c.open_file.new.store) (g.S.Store.faults c.append_record.new.store)
    (g.S.Store.failed c.open_file.new.store) (g.S.Store.failed c.append_record.new.store) c.in-Ok.ensures.wrote (g.S.Store.files c.write_count.new.store) (g.S.Store.faults c.write_count.new.store) (g.S.Store.failed c.write_count.new.store)
    c.in-Ok-append_record.counted c.in-Ok-append_record.ensures.wrote c.in-Err-write_count.error c.in-Err-write_count.ensures
