use Rattle.std.proofs.Common.{◌≡◌, ◌-◌, Some}
use Rattle.wf_model.specs.Files.{Files}
use Rattle.wf_setup.specs.Asked.{OnlyRead}
use Rattle.wf_setup.proofs.Steps.{Left}
use Rattle.wf_setup.proofs.registry_files.registry_with.Given as goal

abbrev pub invariant-loop : goal.invariant-loop
invariant-loop g l = record {
  left : (m : Files) → g.S.Store.files l.initial.store ≡ Some m → Left (64 - l.counter) m l.defines l.initial.files.items l.files.items;
  only : OnlyRead (g.S.Store.files l.initial.store) (g.S.Store.files l.store) (g.S.Store.faults l.initial.store) (g.S.Store.faults l.store);
}
