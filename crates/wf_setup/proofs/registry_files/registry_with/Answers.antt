use Rattle.std.proofs.Common.{◌≡◌, ◌≤◌, ap, sym, ◌∙◌, ◌-◌, ◌+◌, suc, ℕ, List, Ok, subst, arith, add-one}
use Rattle.wf_model.specs.declared.registry.SourceFile.{SourceFile}
use Rattle.wf_model.proofs.ReadingLemmas.{Fails-along}
use Rattle.wf_setup.specs.declared.registry_files.Step.{Step}
use Rattle.wf_setup.specs.Errors.{refusal_of}
use Rattle.wf_setup.specs.Asked.{FaultWanted, includes_asked}
use Rattle.wf_model.specs.KeptLines.{most_files}
use Rattle.wf_setup.specs.Steps.{step_of}
use Rattle.wf_setup.proofs.Steps.{Left, left_read, left_fails, left_asks, left_more}
use Rattle.wf_setup.proofs.Stores.{told_still, only_then}
use Rattle.wf_setup.proofs.Faults.{among_wanted, told_later}
use Rattle.wf_setup.proofs.registry_files.registry_with.Goals as goal

-- one turn less is left
turns : (i : ℕ) → i + 1 ≤ 64 → 64 - i ≡ suc (64 - (i + 1))
turns i h = let e : 64 - i ≡ (64 - (i + 1)) + 1 = omega arith in e ∙ add-one (64 - (i + 1))

pub returns-in-Ok-Read-clause-registry : goal.returns-in-Ok-Read-clause-registry
returns-in-Ok-Read-clause-registry g c = λ m told.
    let still = told_still (g.S.Store.files c.args.store.now) (g.S.Store.files c.loop.store) (g.S.Store.faults c.args.store.now) (g.S.Store.faults c.loop.store) c.loop.invariant.only m told in
    left_read (64 - c.loop.counter) (64 - (c.loop.counter + 1)) m c.args.defines.now c.args.files.items c.loop.files.items c.in-Ok-Read.registry
    (turns c.loop.counter (omega arith))
    (ap (step_of m c.args.defines.now) (sym c.deref.ensures.value) ∙ c.in-Ok-Read.ensures.next m still ∙ ap (λ (s : Step). Ok s) c.in-Ok-Read.field-0-is)
    (c.loop.invariant.left m told)

pub returns-in-Err-clause-registry : goal.returns-in-Err-clause-registry
returns-in-Err-clause-registry g c = λ m told.
    let still = told_still (g.S.Store.files c.args.store.now) (g.S.Store.files c.loop.store) (g.S.Store.faults c.args.store.now) (g.S.Store.faults c.loop.store) c.loop.invariant.only m told in
    left_fails (64 - c.loop.counter) (64 - (c.loop.counter + 1)) m c.args.defines.now c.args.files.items c.loop.files.items (refusal_of c.in-Err.error)
    (turns c.loop.counter (omega arith))
    (Fails-along (refusal_of c.in-Err.error) (step_of m c.args.defines.now c.deref.result.now) (step_of m c.args.defines.now c.loop.files.items)
    (ap (step_of m c.args.defines.now) c.deref.ensures.value) (c.in-Err.ensures.next m still))
    (c.loop.invariant.left m told)

pub returns-in-Err-clause-asked : goal.returns-in-Err-clause-asked
returns-in-Err-clause-asked g c = λ m told.
    among_wanted c.in-Err.error c.loop.files.items c.args.defines.now (includes_asked most_files m c.args.defines.now c.args.files.items)
    (λ q wanted. left_asks (64 - c.loop.counter) (64 - (c.loop.counter + 1)) m c.args.defines.now c.args.files.items c.loop.files.items q
    (turns c.loop.counter (omega arith)) wanted (c.loop.invariant.left m told))
    (subst (λ (files : List SourceFile). FaultWanted c.in-Err.error files c.args.defines.now) c.deref.ensures.value c.in-Err.ensures.asked)

pub returns-in-Err-clause-fault : goal.returns-in-Err-clause-fault
returns-in-Err-clause-fault g c =
    told_later c.in-Err.error (g.S.Store.faults c.args.store.now) (g.S.Store.faults c.loop.store) (g.S.Store.faults c.next_step.new.store) (g.S.Store.failed c.next_step.new.store)
    c.loop.invariant.only.later c.in-Err.ensures.fault

pub loop-preserved : goal.loop-preserved
loop-preserved g c = record {
  left = λ m told.
      let still = told_still (g.S.Store.files c.args.store.now) (g.S.Store.files c.loop.store) (g.S.Store.faults c.args.store.now) (g.S.Store.faults c.loop.store) c.loop.invariant.only m told in
      let wants : step_of m c.args.defines.now c.loop.files.items ≡ _ =
      ap (step_of m c.args.defines.now) (sym c.deref.ensures.value) ∙ c.in-Ok-Wants.ensures.next m still ∙ ap (λ (s : Step). Ok s) c.in-Ok-Wants.field-0-is in
      subst (λ (files : List SourceFile). Left (64 - (c.loop.counter + 1)) m c.args.defines.now c.args.files.items files) (sym c.in-Ok.ensures.items)
      (left_more (64 - c.loop.counter) (64 - (c.loop.counter + 1)) m c.args.defines.now c.args.files.items c.loop.files.items c.in-Ok-Wants.file
      (turns c.loop.counter (omega arith)) wants (c.loop.invariant.left m told));
  only = only_then (g.S.Store.files c.args.store.now) (g.S.Store.files c.loop.store) (g.S.Store.files c.next_step.new.store) (g.S.Store.faults c.args.store.now) (g.S.Store.faults c.loop.store) (g.S.Store.faults c.next_step.new.store) c.loop.invariant.only c.next_step.ensures.only;
}
