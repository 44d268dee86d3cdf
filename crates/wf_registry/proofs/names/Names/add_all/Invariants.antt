use Rattle.wf_registry_columns.specs.Texts.{texts}
use Rattle.wf_registry.specs.Adding.{Adds}
use Rattle.wf_registry.proofs.names.Names.add_all.Given as goal

abbrev pub invariant-loop-word : goal.invariant-loop-word
invariant-loop-word l = Adds l.fn.self l.self (texts l.yielded)
