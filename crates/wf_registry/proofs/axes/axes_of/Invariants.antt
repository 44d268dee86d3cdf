use Rattle.std.proofs.Common.{take}
use Rattle.wf_registry_columns.specs.Axes.{HasAxesOf}
use Rattle.wf_registry.specs.LineEntries.{lines_entries}
use Rattle.wf_registry.proofs.axes.axes_of.Given as goal

abbrev pub invariant-loop-line : goal.invariant-loop-line
invariant-loop-line l = HasAxesOf l.axes (lines_entries l.files (take l.line-index l.lines))
