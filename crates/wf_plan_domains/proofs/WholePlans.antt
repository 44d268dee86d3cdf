-- The plan of a config and a table, from its plan without field levels and items.
use Rattle.std.proofs.Common.{◌≡◌, List, ◌++◌, map, Option, Some, None, Result, Ok, Err, refl, ap, ◌∙◌}
use Rattle.std.specs.Option.{option_or}
use Rattle.wf_model.specs.declared.config.Config.{Config}
use Rattle.wf_model.specs.declared.plan.Plan.{Plan}
use Rattle.wf_model.specs.declared.plan.Field.{Field}
use Rattle.wf_model.specs.declared.plan.Item.{Item}
use Rattle.wf_model.specs.declared.table.HookName.{HookName}
use Rattle.wf_model.specs.declared.plan_fault.PlanFault.{PlanFault}
use Rattle.wf_model.specs.Reading.{first_fault, unless_fault}
use Rattle.wf_model.proofs.ReadingLemmas.{first_fault-append}
use Rattle.wf_model.specs.Plans.{domain_of}
use Rattle.wf_model.specs.PlanFields.{fields_from, z_extents}
use Rattle.wf_model.specs.PlanTests.{unbuilt, unbuilt_fault, domain_faults, item_faults, plan_faults}
use Rattle.wf_model.specs.PlanOf.{plan_from, plan_of}
use Rattle.wf_plan_domains.specs.DomainPlans.{domain_plan_from, domain_plan_of}

-- a plan with these field levels and items in place of its own
abbrev pub with_items : Plan → List Field → List Item → Plan
with_items plan fields items = record plan { fields = fields; items = items }

-- the plan of a config and a table is that of the config, with field levels and items
pub plan_from-domains : (config : Config) (hooks : List HookName) (items : List Item)
    → plan_from config hooks items ≡ with_items (domain_plan_from config) (fields_from config hooks 0 config.fields) items
unfolding plan_from domain_plan_from
plan_from-domains config hooks items = refl

-- the tests of domains and times do not look at field levels and items
pub domain_faults-with_items : (config : Config) (plan : Plan) (fields : List Field) (items : List Item)
    → domain_faults config (with_items plan fields items) ≡ domain_faults config plan
unfolding domain_faults domain_of
domain_faults-with_items config plan fields items = refl

-- ---- a plan, where a first part of its tests is made of less of it

abbrev both : {A F : Type 0} → Option F → (A → Option F) → (A → A) → A → Result A F
both first more whole part = unless_fault (option_or first (more (whole part))) (whole part)

refused : {A F : Type 0} (first : Option F) (more : A → Option F) (whole : A → A) (part : A) (f : F) → unless_fault first part ≡ Err f → both first more whole part ≡ Err f
refused None more whole part f e = cc
refused (Some g) more whole part f e = cc

passed : {A F : Type 0} (first : Option F) (more : A → Option F) (whole : A → A) (part p : A) → unless_fault first part ≡ Ok p → both first more whole part ≡ unless_fault (more (whole p)) (whole p)
passed None more whole part p e = let same : part ≡ p = cc in ap (λ q. unless_fault (more (whole q)) (whole q)) same
passed (Some g) more whole part p e = cc

abbrev first_of : Config → Option PlanFault
first_of config = first_fault (map (unbuilt_fault config) unbuilt ++ domain_faults config (domain_plan_from config))

abbrev whole_of : Config → List HookName → List Item → Plan → Plan
whole_of config hooks items plan = with_items plan (fields_from config hooks 0 config.fields) items

abbrev more_of : Config → Plan → Option PlanFault
more_of config plan = first_fault (item_faults plan (z_extents config))

parts : (config : Config) (hooks : List HookName) (items : List Item) → plan_of config hooks items ≡ both (first_of config) (more_of config) (whole_of config hooks items) (domain_plan_from config)
unfolding plan_of plan_faults
parts config hooks items =
    ap (λ p. unless_fault (first_fault (map (unbuilt_fault config) unbuilt ++ domain_faults config p ++ item_faults p (z_extents config))) p) (plan_from-domains config hooks items)
    ∙ ap (λ d. unless_fault (first_fault (map (unbuilt_fault config) unbuilt ++ d ++ item_faults (whole_of config hooks items (domain_plan_from config)) (z_extents config))) (whole_of config hooks items (domain_plan_from config)))
    (domain_faults-with_items config (domain_plan_from config) (fields_from config hooks 0 config.fields) items)
    ∙ ap (λ f. unless_fault f (whole_of config hooks items (domain_plan_from config)))
    (first_fault-append (map (unbuilt_fault config) unbuilt ++ domain_faults config (domain_plan_from config)) (item_faults (whole_of config hooks items (domain_plan_from config)) (z_extents config)))

-- a fault of domains and times is the plan's
pub plan_of-refused : (config : Config) (hooks : List HookName) (items : List Item) (f : PlanFault) → domain_plan_of config ≡ Err f → plan_of config hooks items ≡ Err f
unfolding domain_plan_of
plan_of-refused config hooks items f e =
    parts config hooks items ∙ refused (first_of config) (more_of config) (whole_of config hooks items) (domain_plan_from config) f e

-- where there is none, the tests of reads and limits are left
pub plan_of-sound : (config : Config) (hooks : List HookName) (items : List Item) (plan : Plan) → domain_plan_of config ≡ Ok plan
    → (let whole = with_items plan (fields_from config hooks 0 config.fields) items in plan_of config hooks items ≡ unless_fault (first_fault (item_faults whole (z_extents config))) whole)
unfolding domain_plan_of
plan_of-sound config hooks items plan e =
    parts config hooks items ∙ passed (first_of config) (more_of config) (whole_of config hooks items) (domain_plan_from config) plan e
