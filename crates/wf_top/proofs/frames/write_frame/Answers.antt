use Rattle.std.proofs.Common.{arith, ap, subst, ◌∙◌, List, length}
use Rattle.wf_model.specs.Files.{StoreCall}
use Rattle.wf_model.specs.Demo.{demo_frame}
use Rattle.wf_model.specs.StoreRuns.{Ran, Stopped}
use Rattle.wf_model.specs.Demo.{demo_file}
use Rattle.wf_model.specs.Failed.{Failed}
use Rattle.wf_model.proofs.StoreRunLaws.{stopped_none, same_error}
use Rattle.wf_top.proofs.FrameLaws.{frame_is, header_after, slab_small, time_length}
use Rattle.wf_top.proofs.frames.write_frame.Goals as goal

pub returns-in-Err-clause-err : goal.returns-in-Err-clause-err
returns-in-Err-clause-err g c = stopped_none (demo_frame c.args.patches.now.nx c.args.patches.now.ny c.args.step) (g.S.Store.files c.args.store.now)

pub byte_sum-requires : goal.byte_sum-requires
byte_sum-requires g c = omega (arith, ap length (c.deref-in-Ok-write_record.ensures.value ∙ c.in-Ok.ensures.time), time_length c.args.step)

pub byte_sum-requires-in-Ok-write_record : goal.byte_sum-requires-in-Ok-write_record
byte_sum-requires-in-Ok-write_record g c =
    let all = c.args.patches.now in
    omega (arith, ap length (c.deref-in-Ok-write_record-2.ensures.value ∙ c.in-Ok.ensures.slab), slab_small all.nx all.ny c.args.step c.requires.domain.columns c.requires.domain.rows)

pub overflow_add-result : goal.overflow_add-result
overflow_add-result g c =
    let all = c.args.patches.now in
    omega (
      arith,
      c.byte_sum.ensures.bound,
      c.byte_sum-in-Ok-write_record.ensures.bound,
      ap length (c.deref-in-Ok-write_record.ensures.value ∙ c.in-Ok.ensures.time),
      time_length c.args.step,
      ap length (c.deref-in-Ok-write_record-2.ensures.value ∙ c.in-Ok.ensures.slab),
      slab_small all.nx all.ny c.args.step c.requires.domain.columns c.requires.domain.rows,
    )

pub returns-in-Ok-write_record-clause-bound : goal.returns-in-Ok-write_record-clause-bound
returns-in-Ok-write_record-clause-bound g c =
    let all = c.args.patches.now in
    omega (
      arith,
      c.byte_sum.ensures.bound,
      c.byte_sum-in-Ok-write_record.ensures.bound,
      ap length (c.deref-in-Ok-write_record.ensures.value ∙ c.in-Ok.ensures.time),
      time_length c.args.step,
      ap length (c.deref-in-Ok-write_record-2.ensures.value ∙ c.in-Ok.ensures.slab),
      slab_small all.nx all.ny c.args.step c.requires.domain.columns c.requires.domain.rows,
    )

pub returns-in-Ok-write_record-clause-there : goal.returns-in-Ok-write_record-clause-there
returns-in-Ok-write_record-clause-there g c =
    let all = c.args.patches.now in
    let same = frame_is c.deref.result.now c.deref-2.result.now c.to_be_bytes-count.result all.nx all.ny c.args.step (c.deref.ensures.value ∙ c.in-Ok.ensures.time) (c.deref-2.ensures.value ∙ c.in-Ok.ensures.slab) c.to_be_bytes-count.ensures in
    header_after all.nx all.ny c.args.step (g.S.Store.files c.args.store.now) (g.S.Store.files c.write_record.new.store) c.requires.there
    (subst (λ (cs : List StoreCall). Ran cs (g.S.Store.files c.args.store.now) (g.S.Store.files c.write_record.new.store)) same c.in-Ok-write_record.ensures.ok)

pub returns-clause-err : goal.returns-clause-err
returns-clause-err g c =
    let all = c.args.patches.now in
    let same = frame_is c.deref.result.now c.deref-2.result.now c.to_be_bytes-count.result all.nx all.ny c.args.step (c.deref.ensures.value ∙ c.in-Ok.ensures.time) (c.deref-2.ensures.value ∙ c.in-Ok.ensures.slab) c.to_be_bytes-count.ensures in
    subst (λ (cs : List StoreCall). Stopped cs (g.S.Store.files c.args.store.now) (g.S.Store.files c.write_record.new.store)) same c.in-Err-write_record.ensures.err

pub returns-clause-failed_call : goal.returns-clause-failed_call
returns-clause-failed_call g c =
    let all = c.args.patches.now in
    let same = frame_is c.deref.result.now c.deref-2.result.now c.to_be_bytes-count.result all.nx all.ny c.args.step (c.deref.ensures.value ∙ c.in-Ok.ensures.time) (c.deref-2.ensures.value ∙ c.in-Ok.ensures.slab) c.to_be_bytes-count.ensures in
    λ is. subst (λ (cs : List StoreCall). Failed cs demo_file (g.S.Store.files c.args.store.now) (g.S.Store.files c.write_record.new.store)) same (c.in-Err-write_record.ensures.failed_call (same_error _ _ is))
