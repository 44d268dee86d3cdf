use Rattle.std.proofs.Common.{◌≡◌, ◌++◌, drop, take}
use Rattle.std.specs.List.{flat_map}
use Rattle.wf_model.specs.PlanFields.{entry_extents, fields_from}
use Rattle.wf_plan_fields.proofs.field_levels.made_of.Given as goal

abbrev pub invariant-loop-entry : goal.invariant-loop-entry
invariant-loop-entry l = record {
  fields : l.made.fields.items ++ fields_from l.config l.hooks l.first (drop l.entry-index l.entries) ≡ fields_from l.config l.hooks 0 l.entries;
  extents : l.made.extents.items ≡ flat_map (entry_extents l.config) (take l.entry-index l.entries);
}
