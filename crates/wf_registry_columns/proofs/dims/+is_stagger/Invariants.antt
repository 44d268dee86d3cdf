use Rattle.std.proofs.Common.{length}
use Rattle.wf_registry_columns.proofs.dims.+is_stagger.Given as goal

abbrev pub decreases-is_stagger : goal.decreases-is_stagger
decreases-is_stagger l = length l.word.now
