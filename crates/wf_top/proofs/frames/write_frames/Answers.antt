use Rattle.std.proofs.Common.{arith, sym, ap, subst, ◌∙◌, ◌≡◌, ◌+◌, ◌-◌, List, sum_by}
use Rattle.std.specs.List.{range_with_len}
use Rattle.wf_model.specs.Files.{StoreCall}
use Rattle.wf_model.specs.Demo.{demo_file, demo_frames, frame_sum}
use Rattle.wf_model.specs.StoreRuns.{Ran, Stopped}
use Rattle.wf_top.specs.Domains.{HoldGrid}
use Rattle.wf_model.specs.Failed.{Failed}
use Rattle.wf_top.proofs.DomainLaws.{size_then}
use Rattle.wf_top.proofs.FrameLaws.{ran_step, stopped_frame, failed_frame, sum_step, frame_along, sum_along}
use Rattle.wf_top.proofs.frames.write_frames.Goals as goal

pub returns-in-Err-clause-err : goal.returns-in-Err-clause-err
returns-in-Err-clause-err g c =
    let start = c.args.patches.now in
    let mid = c.loop-step.patches in
    let a = g.S.Store.files c.args.store.now in
    let b = g.S.Store.files c.loop-step.store in
    let d = g.S.Store.files c.write_frame.new.store in
    let same = frame_along start.nx start.ny mid.nx mid.ny c.loop-step.step c.loop-step.invariant.size.nx c.loop-step.invariant.size.ny in
    stopped_frame start.nx start.ny c.loop-step.step (c.args.steps + 1) a b d (omega arith) c.loop-step.invariant.ran (subst (λ (cs : List StoreCall). Stopped cs b d) same c.in-Err.ensures.err)

pub loop-step-preserved : goal.loop-step-preserved
loop-step-preserved g c =
    let start = c.args.patches.now in
    let mid = c.loop-step.patches in
    let n = c.loop-step.step in
    let a = g.S.Store.files c.args.store.now in
    let b = g.S.Store.files c.loop-step.store in
    let d = g.S.Store.files c.write_frame.new.store in
    let size = c.loop-step.invariant.size in
    let same = frame_along start.nx start.ny mid.nx mid.ny n size.nx size.ny in
    let back : n ≡ n + 1 - 1 = omega arith in
    record {
      ran = ran_step start.nx start.ny n a b d c.loop-step.invariant.ran (subst (λ (cs : List StoreCall). Ran cs b d) same c.in-Ok.ensures.ok);
      header = c.in-Ok.ensures.there;
      domain = c.advance.ensures.domain;
      size = size_then start mid c.advance.new.self size c.advance.ensures.size;
      grid = subst (λ k. HoldGrid (n + 1) k c.advance.new.self) back (c.advance.ensures.stepped n (n - 1) c.loop-step.invariant.grid);
      total = ap (λ t. t + c.in-Ok.sum) c.loop-step.invariant.total ∙ ap (λ t. sum_by (frame_sum start.nx start.ny) (range_with_len 0 n) + t) (c.in-Ok.ensures.sum ∙ sum_along start.nx start.ny mid.nx mid.ny n size.nx size.ny) ∙ sym (sum_step start.nx start.ny n);
      bound = omega (arith, c.loop-step.invariant.bound, c.in-Ok.ensures.bound);
      faults = omega (arith, c.loop-step.invariant.faults, c.write_frame.ensures.faults.later);
    }

pub write_frame-requires-2-clause-grid : goal.write_frame-requires-2-clause-grid
write_frame-requires-2-clause-grid g c =
    let last : c.loop-step.step ≡ c.args.steps = omega arith in
    (c.args.steps - 1, subst (λ n. HoldGrid n (n - 1) c.loop-step.patches) last c.loop-step.invariant.grid)

pub returns-in-Ok-write_frame-clause-ok : goal.returns-in-Ok-write_frame-clause-ok
returns-in-Ok-write_frame-clause-ok g c =
    let start = c.args.patches.now in
    let mid = c.loop-step.patches in
    let n = c.args.steps in
    let a = g.S.Store.files c.args.store.now in
    let b = g.S.Store.files c.loop-step.store in
    let d = g.S.Store.files c.write_frame-2.new.store in
    let last : c.loop-step.step ≡ n = omega arith in
    let same = frame_along start.nx start.ny mid.nx mid.ny n c.loop-step.invariant.size.nx c.loop-step.invariant.size.ny in
    ran_step start.nx start.ny n a b d (subst (λ k. Ran (demo_frames start.nx start.ny k) a b) last c.loop-step.invariant.ran) (subst (λ (cs : List StoreCall). Ran cs b d) same c.in-Ok-write_frame.ensures.ok)

pub returns-in-Ok-write_frame-clause-sum : goal.returns-in-Ok-write_frame-clause-sum
returns-in-Ok-write_frame-clause-sum g c =
    let start = c.args.patches.now in
    let mid = c.loop-step.patches in
    let n = c.args.steps in
    let last : c.loop-step.step ≡ n = omega arith in
    let before : c.loop-step.total ≡ sum_by (frame_sum start.nx start.ny) (range_with_len 0 n) = c.loop-step.invariant.total ∙ ap (λ k. sum_by (frame_sum start.nx start.ny) (range_with_len 0 k)) last in
    ap (λ t. t + c.in-Ok-write_frame.sum) before
    ∙ ap (λ t. sum_by (frame_sum start.nx start.ny) (range_with_len 0 n) + t) (c.in-Ok-write_frame.ensures.sum ∙ sum_along start.nx start.ny mid.nx mid.ny n c.loop-step.invariant.size.nx c.loop-step.invariant.size.ny)
    ∙ sym (sum_step start.nx start.ny n)

pub returns-in-Ok-write_frame-clause-grid : goal.returns-in-Ok-write_frame-clause-grid
returns-in-Ok-write_frame-clause-grid g c =
    let last : c.loop-step.step ≡ c.args.steps = omega arith in
    subst (λ n. HoldGrid n (n - 1) c.loop-step.patches) last c.loop-step.invariant.grid

pub returns-clause-err : goal.returns-clause-err
returns-clause-err g c =
    let start = c.args.patches.now in
    let mid = c.loop-step.patches in
    let n = c.args.steps in
    let a = g.S.Store.files c.args.store.now in
    let b = g.S.Store.files c.loop-step.store in
    let d = g.S.Store.files c.write_frame-2.new.store in
    let last : c.loop-step.step ≡ n = omega arith in
    let same = frame_along start.nx start.ny mid.nx mid.ny n c.loop-step.invariant.size.nx c.loop-step.invariant.size.ny in
    stopped_frame start.nx start.ny n (n + 1) a b d (omega arith) (subst (λ k. Ran (demo_frames start.nx start.ny k) a b) last c.loop-step.invariant.ran)
    (subst (λ (cs : List StoreCall). Stopped cs b d) same c.in-Err-write_frame.ensures.err)

pub returns-in-Err-clause-failed_call : goal.returns-in-Err-clause-failed_call
returns-in-Err-clause-failed_call g c =
    let start = c.args.patches.now in
    let mid = c.loop-step.patches in
    let a = g.S.Store.files c.args.store.now in
    let b = g.S.Store.files c.loop-step.store in
    let d = g.S.Store.files c.write_frame.new.store in
    let same = frame_along start.nx start.ny mid.nx mid.ny c.loop-step.step c.loop-step.invariant.size.nx c.loop-step.invariant.size.ny in
    λ is. failed_frame start.nx start.ny c.loop-step.step (c.args.steps + 1) a b d (omega arith) c.loop-step.invariant.ran (subst (λ (cs : List StoreCall). Failed cs demo_file b d) same (c.in-Err.ensures.failed_call is))

pub returns-clause-failed_call : goal.returns-clause-failed_call
returns-clause-failed_call g c =
    let start = c.args.patches.now in
    let mid = c.loop-step.patches in
    let n = c.args.steps in
    let a = g.S.Store.files c.args.store.now in
    let b = g.S.Store.files c.loop-step.store in
    let d = g.S.Store.files c.write_frame-2.new.store in
    let last : c.loop-step.step ≡ n = omega arith in
    let same = frame_along start.nx start.ny mid.nx mid.ny n c.loop-step.invariant.size.nx c.loop-step.invariant.size.ny in
    λ is. failed_frame start.nx start.ny n (n + 1) a b d (omega arith) (subst (λ k. Ran (demo_frames start.nx start.ny k) a b) last c.loop-step.invariant.ran)
    (subst (λ (cs : List StoreCall). Failed cs demo_file b d) same (c.in-Err-write_frame.ensures.failed_call is))
