use Rattle.std.proofs.Common.{◌≡◌, ◌++◌, sym, ap, subst, ◌∙◌}
use Rattle.std.specs.Prelude.{flat_map}
use Rattle.std.specs.List.{enumerate_from}
use Rattle.wf_model.specs.declared.registry.Entry.{Entry}
use Rattle.wf_model.specs.Entries.{entry_levels, is_two, variable_of}
use Rattle.wf_model.specs.Io.{io_of, parts_of}
use Rattle.wf_model.specs.PlanFields.{entry_extents, level_field, shown}
use Rattle.wf_plan_fields.specs.LevelFields.{IsShape, held_by}
use Rattle.wf_plan_fields.specs.declared.field_levels.Shape.{Shape}
use Rattle.wf_plan_fields.proofs.LevelsOf.{IsShared, extents_are, fields_are}
use Rattle.wf_plan_fields.proofs.field_levels.add_entry.Goals as goal
use Rattle.wf_plan_fields.proofs.field_levels.add_entry.Goals.{After-drop-variable-2}

module _ (c : After-drop-variable-2) where
  shared : IsShared c.args.config.now c.args.hooks.now c.in-State.symbol c.in-State.dims c.in-State.stagger c.in-State.io c.in-State.dname c.in-State.description c.in-State.units c.shared-common.result
  shared = record {
    dname_is = c.shared-common.ensures.dname ∙ c.as_slice-dname.ensures.value ∙ c.in_ok-variable.ensures ∙ ap (λ s. variable_of s c.as_slice-2.result.now) c.as_slice.ensures.value ∙ ap (variable_of c.in-State.symbol) c.as_slice-2.ensures;
    shape_is =
        subst (λ (s : Shape). IsShape c.args.config.now c.in-State.dims c.in-State.stagger s) (sym c.shared-common.ensures.shape)
        (subst (λ ds. IsShape c.args.config.now ds c.in-State.stagger c.in_ok-shape.shape) c.as_slice-3.ensures
        (subst (λ st. IsShape c.args.config.now c.as_slice-3.result.now st c.in_ok-shape.shape) c.as_slice-4.ensures c.in_ok-shape.ensures));
    held_is = c.shared-common.ensures.held ∙ c.in_ok-held.ensures ∙ ap (λ io. held_by c.args.hooks.now (parts_of (io_of io))) c.as_slice-5.ensures;
    description_is = c.shared-common.ensures.description ∙ ap shown c.as_slice-6.ensures;
    units_is = c.shared-common.ensures.units ∙ ap shown c.as_slice-7.ensures;
  }

  two : c.is_two.result ≡ is_two c.in-State.levels
  two = c.is_two.ensures ∙ ap is_two c.as_slice-8.ensures

pub returns-clause-fields : goal.returns-clause-fields
returns-clause-fields c =
    c.in_ok-push_levels.ensures.fields
    ∙ ap (λ fs. c.args.made.now.fields.items ++ fs)
    (fields_are c.args.config.now c.args.hooks.now c.in-State.kind c.in-State.symbol c.in-State.dims c.in-State.levels c.in-State.stagger c.in-State.io c.in-State.dname c.in-State.description c.in-State.units
    c.shared-common.result c.args.first c.is_two.result (shared c) (two c)
    ∙ ap (λ (e : Entry). flat_map (level_field c.args.config.now c.args.hooks.now e c.args.first) (enumerate_from 0 (entry_levels e))) (sym c.in-State.is))

pub returns-clause-extents : goal.returns-clause-extents
returns-clause-extents c =
    c.in_ok-push_levels.ensures.extents
    ∙ ap (λ es. c.args.made.now.extents.items ++ es)
    (extents_are c.args.config.now c.args.hooks.now c.in-State.kind c.in-State.symbol c.in-State.dims c.in-State.levels c.in-State.stagger c.in-State.io c.in-State.dname c.in-State.description c.in-State.units
    c.shared-common.result c.is_two.result (shared c) (two c)
    ∙ ap (entry_extents c.args.config.now) (sym c.in-State.is))
