use Rattle.std.proofs.Common.{◌∙◌}
use Rattle.wf_model.specs.NamesOf.{period_of}
use Rattle.wf_config.proofs.Loops.{kept_as_it_is}
use Rattle.wf_config.proofs.table_names.periods_of.Goals as goal

pub loop-entry-preserved : goal.loop-entry-preserved
loop-entry-preserved c =
    c.in_ok-push_some.ensures
    ∙ kept_as_it_is (period_of c.args.levels.now) c.loop-entry.periods.items c.in_ok-period_of.field-0 c.args.entries.now c.loop-entry.entry-index c.entry-item.result c.loop-entry-test.true c.entry-item.is c.in_ok-period_of.ensures c.loop-entry.invariant
