use Rattle.std.proofs.Common.{◌≡◌, ◌-◌, ◌≤◌, length, drop, map}
use Rattle.std.specs.List.{All}
use Rattle.wf_model.specs.Lines.{lines_read}
use Rattle.wf_text.specs.Rest.{rest_read}
use Rattle.wf_registry_lines.specs.FileLines.{IsHeld, held}
use Rattle.wf_registry_lines.proofs.LinesHeld.{behind}
use Rattle.wf_registry_lines.proofs.ahead.file_lines.Given as goal

abbrev pub invariant-loop-at : goal.invariant-loop-at
invariant-loop-at l = record {
  within : l.at ≤ length l.fn.text;
  same : behind (map (held l.fn.text) l.lines.items) (rest_read l.before (drop l.at l.fn.text)) ≡ lines_read l.fn.text;
  held : All (IsHeld l.fn.text) l.lines.items;
}

abbrev pub decreases-loop-at : goal.decreases-loop-at
decreases-loop-at l = length l.fn.text - l.at
