use Rattle.std.proofs.Common.{◌≡◌, ◌++◌, drop}
use Rattle.std.specs.Prelude.{flat_map}
use Rattle.wf_top.specs.Checks.{field_line}
use Rattle.wf_top.proofs.check_text.field_lines.Given as goal

abbrev pub invariant-loop-level : goal.invariant-loop-level
invariant-loop-level l = l.text.items ++ flat_map field_line (drop l.level-index l.levels) ≡ flat_map field_line l.levels
