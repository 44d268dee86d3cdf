use Rattle.std.proofs.Common.{subst, ℕ, ◌+◌, List, [], ◌∷◌}
use Rattle.std.proofs.lemmas.Result.{on_ok_weaker, on_err_weaker}
use Rattle.wf_model.specs.Files.{StoreCall, create, append}
use Rattle.wf_model.specs.Headers.{file_header, placed}
use Rattle.wf_model.specs.DemoCase.{demo_plan, case_start}
use Rattle.wf_model.specs.Demo.{demo_file, demo_header, demo_frames}
use Rattle.wf_model.specs.StoreRuns.{Ran, Stopped}
use Rattle.wf_model.proofs.StoreRunLaws.{ran_then, stopped_left, stopped_right, failed_left, failed_right, same_error}
use Rattle.wf_model.specs.Failed.{Failed}
use Rattle.wf_top.proofs.FrameLaws.{header_made}
use Rattle.wf_top.proofs.frames.write_file.Goals as goal

abbrev begins : List ℕ → List StoreCall
begins header = create demo_file ∷ append demo_file header ∷ []

pub write_frames-requires-clause-there : goal.write_frames-requires-clause-there
write_frames-requires-clause-there g c =
    let all = c.args.patches.now in
    header_made (placed (file_header (demo_plan all.nx all.ny c.args.steps) 1 0 case_start 0)) (g.S.Store.files c.args.store.now) (g.S.Store.files c.begin_file.new.store)
    (subst (λ (h : List ℕ). Ran (begins h) (g.S.Store.files c.args.store.now) (g.S.Store.files c.begin_file.new.store)) c.requires.header c.in-Ok.ensures.ok)

pub returns-in-Ok-clause-ok : goal.returns-in-Ok-clause-ok
returns-in-Ok-clause-ok g c =
    let all = c.args.patches.now in
    let a = g.S.Store.files c.args.store.now in
    let b = g.S.Store.files c.begin_file.new.store in
    let d = g.S.Store.files c.write_frames.new.store in
    on_ok_weaker c.write_frames.result (λ r. ran_then (begins (demo_header all.nx all.ny c.args.steps)) (demo_frames all.nx all.ny (c.args.steps + 1)) a b d (subst (λ (h : List ℕ). Ran (begins h) a b) c.requires.header c.in-Ok.ensures.ok) r) c.write_frames.ensures.ok

pub returns-in-Ok-clause-err : goal.returns-in-Ok-clause-err
returns-in-Ok-clause-err g c =
    let all = c.args.patches.now in
    let a = g.S.Store.files c.args.store.now in
    let b = g.S.Store.files c.begin_file.new.store in
    let d = g.S.Store.files c.write_frames.new.store in
    on_err_weaker c.write_frames.result (λ r. stopped_right (begins (demo_header all.nx all.ny c.args.steps)) (demo_frames all.nx all.ny (c.args.steps + 1)) a b d (subst (λ (h : List ℕ). Ran (begins h) a b) c.requires.header c.in-Ok.ensures.ok) r) c.write_frames.ensures.err

pub returns-in-Err-clause-err : goal.returns-in-Err-clause-err
returns-in-Err-clause-err g c =
    let all = c.args.patches.now in
    let a = g.S.Store.files c.args.store.now in
    let b = g.S.Store.files c.begin_file.new.store in
    stopped_left (begins (demo_header all.nx all.ny c.args.steps)) (demo_frames all.nx all.ny (c.args.steps + 1)) a b (subst (λ (h : List ℕ). Stopped (begins h) a b) c.requires.header c.in-Err.ensures.err)

pub returns-in-Ok-clause-failed_call : goal.returns-in-Ok-clause-failed_call
returns-in-Ok-clause-failed_call g c =
    let all = c.args.patches.now in
    let a = g.S.Store.files c.args.store.now in
    let b = g.S.Store.files c.begin_file.new.store in
    let d = g.S.Store.files c.write_frames.new.store in
    λ is. failed_right (begins (demo_header all.nx all.ny c.args.steps)) (demo_frames all.nx all.ny (c.args.steps + 1)) demo_file a b d (subst (λ (h : List ℕ). Ran (begins h) a b) c.requires.header c.in-Ok.ensures.ok) (c.write_frames.ensures.failed_call is)

pub returns-in-Err-clause-failed_call : goal.returns-in-Err-clause-failed_call
returns-in-Err-clause-failed_call g c =
    let all = c.args.patches.now in
    let a = g.S.Store.files c.args.store.now in
    let b = g.S.Store.files c.begin_file.new.store in
    λ is. failed_left (begins (demo_header all.nx all.ny c.args.steps)) (demo_frames all.nx all.ny (c.args.steps + 1)) demo_file a b (subst (λ (h : List ℕ). Failed (begins h) demo_file a b) c.requires.header (c.in-Err.ensures.failed_call (same_error _ _ is)))
