use Rattle.std.proofs.Common.{◌≡◌, map, take}
use Rattle.wf_top.proofs.run_text.field_names.Given as goal

abbrev pub invariant-loop-field : goal.invariant-loop-field
invariant-loop-field l = l.names.items ≡ map (λ f. f.name) (take l.field-index l.fields)
