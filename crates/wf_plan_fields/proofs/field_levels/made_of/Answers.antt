use Rattle.std.proofs.Common.{◌≡◌, ◌+◌, ◌∙◌, rules, length}
use Rattle.wf_model.specs.Entries.{entry_levels}
use Rattle.wf_model.specs.PlanFields.{fields_from}
use Rattle.wf_plan_fields.proofs.LevelsOf.{extents_more, fields_all, fields_more}
use Rattle.wf_plan_fields.proofs.field_levels.made_of.Goals as goal

pub loop-entry-preserved : goal.loop-entry-preserved
loop-entry-preserved c =
    let next : c.in-Some.end ≡ c.loop-entry.first + length (entry_levels c.entry-item.result) = search rules in
    record {
      fields =
          fields_more c.args.config.now c.args.hooks.now c.loop-entry.made.fields.items c.add_entry.new.made.fields.items (fields_from c.args.config.now c.args.hooks.now 0 c.args.entries.now) c.args.entries.now
          c.loop-entry.entry-index c.loop-entry.first c.in-Some.end c.entry-item.result c.loop-entry-test.true c.entry-item.is next c.in_ok-add_entry.ensures.fields c.loop-entry.invariant.fields;
      extents =
          c.in_ok-add_entry.ensures.extents
          ∙ extents_more c.args.config.now c.loop-entry.made.extents.items c.args.entries.now c.loop-entry.entry-index c.entry-item.result c.loop-entry-test.true c.entry-item.is c.loop-entry.invariant.extents;
    }

pub returns-clause-fields : goal.returns-clause-fields
returns-clause-fields c =
    fields_all c.args.config.now c.args.hooks.now c.loop-entry.made.fields.items (fields_from c.args.config.now c.args.hooks.now 0 c.args.entries.now) c.args.entries.now c.loop-entry.entry-index c.loop-entry.first
    c.loop-entry-test.false c.loop-entry.invariant.fields
