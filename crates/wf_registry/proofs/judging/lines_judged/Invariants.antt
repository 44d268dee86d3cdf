use Rattle.std.proofs.Common.{◌≡◌, [], map, drop}
use Rattle.wf_registry_lines.specs.Kept.{kept_in}
use Rattle.wf_registry.specs.Judged.{lines_judged}
use Rattle.wf_registry.proofs.judging.lines_judged.Given as goal

abbrev pub invariant-loop-line : goal.invariant-loop-line
invariant-loop-line l = lines_judged l.all l.declared (map (kept_in l.files) (drop l.line-index l.lines)) ≡ lines_judged l.all [] (map (kept_in l.files) l.lines)
