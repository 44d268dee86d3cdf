use Rattle.std.proofs.Common.{◌∙◌, sym}
use Rattle.wf_registry_columns.proofs.AxisLemmas.{known_again}
use Rattle.wf_registry_columns.proofs.axes.Axes.add.Goals as goal

pub returns-else-not-is_known : goal.returns-else-not-is_known
returns-else-not-is_known c = known_again c.args.self.now c.args.letter c.args.axis (sym c.is_known.ensures ∙ c.if-not-is_known.false)
