use Rattle.std.proofs.Common.{◌≡◌, map, take}
use Rattle.wf_model.specs.Answer.{phase_name}
use Rattle.wf_top.proofs.run_text.phase_names.Given as goal

abbrev pub invariant-loop-item : goal.invariant-loop-item
invariant-loop-item l = l.names.items ≡ map phase_name (take l.item-index l.items)
