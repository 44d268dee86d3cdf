-- A plan is that of its domains, with field levels and items, where none of its tests fails.
use Rattle.std.proofs.Common.{◌≡◌, ◌∙◌, sym, ap, subst, List, Option, Some, None, Ok, Err, Result}
use Rattle.wf_model.specs.declared.config.Config.{Config}
use Rattle.wf_model.specs.declared.plan.Plan.{Plan}
use Rattle.wf_model.specs.declared.plan.Item.{Item}
use Rattle.wf_model.specs.declared.plan_fault.PlanFault.{PlanFault}
use Rattle.wf_model.specs.declared.table.HookName.{HookName}
use Rattle.wf_model.specs.Reading.{Fails, first_fault, unless_fault}
use Rattle.wf_model.specs.PlanFields.{fields_from, z_extents}
use Rattle.wf_model.specs.PlanOf.{plan_of}
use Rattle.wf_model.specs.PlanTests.{item_faults}
use Rattle.wf_plan_domains.specs.DomainPlans.{domain_plan_of}
use Rattle.wf_plan_domains.proofs.WholePlans.{plan_of-refused, plan_of-sound, with_items}

-- a fault of domains or times is one of the plan
pub refused_domains : (config : Config) (hooks : List HookName) (items : List Item) (told : Option PlanFault)
    → Fails told (domain_plan_of config) → Fails told (plan_of config hooks items)
refused_domains config hooks items None h = tt
refused_domains config hooks items (Some f) h = plan_of-refused config hooks items f h

module _ (config : Config) (hooks : List HookName) (items : List Item) (bare whole : Plan) (sound : domain_plan_of config ≡ Ok bare)
    (is : whole ≡ with_items bare (fields_from config hooks 0 config.fields) items) where
  judged : plan_of config hooks items ≡ unless_fault (first_fault (item_faults whole (z_extents config))) whole
  judged = plan_of-sound config hooks items bare sound ∙ ap (λ (p : Plan). let r : Result Plan PlanFault = unless_fault (first_fault (item_faults p (z_extents config))) p in r) (sym is)

  pub refused_items : (f : PlanFault) → Some f ≡ first_fault (item_faults whole (z_extents config)) → plan_of config hooks items ≡ Err f
  refused_items f found = judged ∙ ap (λ (o : Option PlanFault). let r : Result Plan PlanFault = unless_fault o whole in r) (sym found)

  pub planned : None ≡ first_fault (item_faults whole (z_extents config)) → plan_of config hooks items ≡ Ok whole
  planned found = judged ∙ ap (λ (o : Option PlanFault). let r : Result Plan PlanFault = unless_fault o whole in r) (sym found)
