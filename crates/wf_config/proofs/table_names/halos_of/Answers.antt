use Rattle.std.proofs.Common.{◌∙◌}
use Rattle.wf_model.specs.NamesOf.{halo_of}
use Rattle.wf_config.proofs.Loops.{kept_as_it_is}
use Rattle.wf_config.proofs.table_names.halos_of.Goals as goal

pub loop-entry-preserved : goal.loop-entry-preserved
loop-entry-preserved c =
    c.in_ok-push_some.ensures
    ∙ kept_as_it_is (halo_of c.args.levels.now) c.loop-entry.halos.items c.in_ok-halo_of.field-0 c.args.entries.now c.loop-entry.entry-index c.entry-item.result c.loop-entry-test.true c.entry-item.is c.in_ok-halo_of.ensures c.loop-entry.invariant
