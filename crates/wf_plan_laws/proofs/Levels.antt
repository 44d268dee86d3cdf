-- The field levels of a plan are in their ranges, and each has its pair.
use Rattle.std.proofs.Common.{get_or, sym, subst}
use Rattle.std.specs.List.{All}
use Rattle.wf_model.specs.Plans.{field_of, no_field}
use Rattle.wf_model.specs.PlanFields.{z_extents}
use Rattle.wf_model.specs.Ranges.{IsRangedField}
use Rattle.wf_registry_laws.proofs.Extents.{passed_extents_are_ranged, extents_are_numbered}
use Rattle.wf_registry_laws.proofs.Pairs.{pairs_are_sound}
use Rattle.wf_registry_laws.proofs.Ranged.{levels_are_ranged}
use Rattle.wf_plan_laws.specs.PartLaws.{FieldsAreSound}

pub fields_are_sound : FieldsAreSound
unfolding field_of
fields_are_sound config hooks plan sound same passes =
    let extents = passed_extents_are_ranged (z_extents config) passes in
    let ranged : All IsRangedField plan.fields = subst (λ fs. All IsRangedField fs) (sym same) (levels_are_ranged config hooks sound extents) in
    record {
      extents = record {
        same = extents_are_numbered config hooks plan same extents;
        some = λ f is. let field : IsRangedField (get_or plan.fields f no_field) = ranged f no_field is in field.nz.0;
      };
      ranged = ranged;
      pairs = pairs_are_sound config hooks plan same;
    }
