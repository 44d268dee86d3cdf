-- The names by which an overflow is told.
use Rattle.std.specs.Prelude.{◌≡◌, map}
use Rattle.wf_model.specs.declared.plan.Plan.{Plan}
use Rattle.wf_model.specs.Answer.{phase_name}
use Rattle.wf_top.specs.declared.run_text.PointNames.{PointNames}

-- those of the items of a plan, where an item that is no phase has no name, and of its field levels
pub record AreNamesOf (plan : Plan) (names : PointNames) : Type 0 where
  pub items : names.items ≡ map phase_name plan.items
  pub fields : names.fields ≡ map (λ f. f.name) plan.fields
