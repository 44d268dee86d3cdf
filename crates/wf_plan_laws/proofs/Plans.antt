-- The parts of an accepted plan put together.
use Rattle.std.proofs.Common.{◌≡◌, inl, Ok, pos, codes, ◌≤◌, List, length, refl, sym, subst, arith}
use Rattle.std.specs.List.{All}
use Rattle.wf_model.specs.declared.config.Config.{Config}
use Rattle.wf_model.specs.declared.plan.Plan.{Plan}
use Rattle.wf_model.specs.declared.plan.Item.{Item}
use Rattle.wf_model.specs.declared.table.HookName.{HookName}
use Rattle.wf_model.specs.Config.{config_of}
use Rattle.wf_model.specs.declared.registry.Registry.{Registry}
use Rattle.wf_model.specs.declared.namelist.Namelist.{Namelist}
use Rattle.wf_model.specs.PlanDomains.{integer, domain_total}
use Rattle.wf_model.specs.PlanFields.{z_extents}
use Rattle.wf_model.specs.PlanOf.{plan_from}
use Rattle.wf_model.specs.Sound.{IsSoundItem, IsSoundPlan, IsRangedPlan, UsesHooks}
use Rattle.wf_config_laws.specs.SoundDomains.{HasSoundDomains}
use Rattle.wf_config_laws.specs.RangedValues.{HasRangedValues}
use Rattle.wf_config_laws.proofs.Values.{bound_values_ranged}
use Rattle.wf_config_laws.proofs.SoundDomains.{bound_domains_ranged}
use Rattle.wf_registry_laws.specs.FieldLaws.{field_levels}
use Rattle.wf_registry_laws.proofs.Registries.{registries_are_sound}
use Rattle.wf_registry_laws.proofs.Configs.{configs_are_sound}
use Rattle.wf_registry_laws.proofs.Hooks.{levels_use_hooks}
use Rattle.wf_table_laws.specs.NamesLaws.{AreItemsOf}
use Rattle.wf_table_laws.proofs.Margins.{margins_small}
use Rattle.wf_table_laws.proofs.BoundNames.{bound_tables}
use Rattle.wf_plan_laws.specs.TestLaws.{PassesSoundTests}
use Rattle.wf_plan_laws.specs.PartLaws.{AreSoundFields, PassesLimits}
use Rattle.wf_plan_laws.specs.PlanLaws.{IsTestedPlan, TestedPlansAreSound, PlansWithHooksAreSound}
use Rattle.wf_plan_laws.proofs.Tests.{plans_pass_their_tests}
use Rattle.wf_plan_laws.proofs.SoundReads.{reads_are_sound}
use Rattle.wf_plan_laws.proofs.Items.{phases_name_levels, items_are_sound}
use Rattle.wf_plan_laws.proofs.Levels.{fields_are_sound}
use Rattle.wf_plan_laws.proofs.Limits.{limits_are_kept}
use Rattle.wf_plan_laws.proofs.Single.{domains_are_counted, domains_are_single}

-- the number of domains isn't below 0
max_dom_is : (registry : Registry) (namelist : Namelist) (config : Config) → config_of registry namelist ≡ Ok config → integer config (codes "max_dom") 1 ≡ pos (domain_total config)
max_dom_is registry namelist config bound = let values : HasRangedValues config = bound_values_ranged registry namelist config bound in values.own.max_dom.number

sound_plan : (plan : Plan) (zs : List _) → HasSoundDomains plan → AreSoundFields plan zs → All (IsSoundItem plan) plan.items → IsSoundPlan plan
sound_plan plan zs domains fields items = record {
  some = domains.some;
  wide = λ d is. let x = domains.each d is in x.ide.0;
  high = λ d is. let x = domains.each d is in x.jde.0;
  steps = λ d is. let x = domains.each d is in x.seconds.0;
  nests = domains.nests;
  levels = fields.extents.some;
  pairs = fields.pairs;
  items = items;
}

ranged_plan : (config : Config) (hooks : List HookName) (plan : Plan) (zs : List _) → HasSoundDomains plan → AreSoundFields plan zs → AreItemsOf config hooks plan.items → PassesLimits plan zs
    → plan.version ≡ 1 → IsRangedPlan plan
ranged_plan config hooks plan zs domains fields items limits version = record {
  first = domains.first;
  nests = domains.timed;
  time = domains.time;
  domains = domains.ranged;
  fields = fields.ranged;
  items = items.ranged;
  bdy_width = domains.bdy_width;
  version = inl version;
  limits = record {
    domains = domains.few;
    levels = limits.levels;
    items = items.few;
    margin = margins_small plan items.ranged;
    cells = limits.cells;
    script = limits.script;
  };
}

-- what a plan has of the config and the table
record IsMadeOf (config : Config) (hooks : List HookName) (items : List Item) (plan : Plan) : Type 0 where
  fields : plan.fields ≡ field_levels config hooks
  given : items ≡ plan.items
  version : plan.version ≡ 1
  domains : length plan.domains ≡ domain_total config

made_of : (config : Config) (hooks : List HookName) (items : List Item) → IsMadeOf config hooks items (plan_from config hooks items)
unfolding plan_from
made_of config hooks items = record { fields = refl; given = refl; version = refl; domains = domains_are_counted config hooks items }

pub tested_plans_are_sound : TestedPlansAreSound
tested_plans_are_sound files defines registry namelist config hooks text items plan read bound arities table from passes =
    let zs = z_extents config in
    let made : IsMadeOf config hooks items plan = subst (λ (p : Plan). IsMadeOf config hooks items p) from (made_of config hooks items) in
    let sound = configs_are_sound registry namelist config (registries_are_sound files defines registry read) bound in
    let own : AreItemsOf config hooks plan.items = subst (AreItemsOf config hooks) made.given (bound_tables files defines registry namelist config hooks text items read bound arities table) in
    let limits = limits_are_kept plan zs passes.limits in
    let fields = fields_are_sound config hooks plan sound made.fields limits.extents in
    let domains : HasSoundDomains plan = subst (λ (p : Plan). HasSoundDomains p) from (bound_domains_ranged registry namelist config hooks items bound (subst (λ (p : Plan). PassesSoundTests config p) (sym from) passes).domains) in
    let reads = reads_are_sound plan zs fields.extents domains.some (phases_name_levels config hooks plan made.fields own) passes.reads in
    record {
      sound = sound_plan plan zs domains fields (items_are_sound config hooks plan made.fields own reads);
      ranged = ranged_plan config hooks plan zs domains fields own limits made.version;
      files = limits.files;
      calls = own.calls;
      functions = λ usual. record { functions = subst (λ fs. All (UsesHooks hooks) fs) (sym made.fields) (levels_use_hooks config hooks usual); calls = own.calls };
      no_calls = own.no_calls;
    }

pub plans_with_hooks_are_sound : PlansWithHooksAreSound
plans_with_hooks_are_sound files defines registry namelist config hooks text items plan read bound arities table given =
    let tests = plans_pass_their_tests config hooks items plan given in
    let passes = tests.1 in
    let all : IsTestedPlan hooks plan = tested_plans_are_sound files defines registry namelist config hooks text items plan read bound arities table tests.0 (record { domains = passes.domains; reads = passes.reads; limits = passes.limits }) in
    let made : IsMadeOf config hooks items plan = subst (λ (p : Plan). IsMadeOf config hooks items p) tests.0 (made_of config hooks items) in
    let few : length plan.domains ≤ 1 = subst (λ n. n ≤ 1) (sym made.domains) (domains_are_single config (max_dom_is registry namelist config bound) passes.built) in
    record {
      sound = all.sound;
      ranged = all.ranged;
      files = all.files;
      single = omega (arith, few, all.sound.some);
      calls = all.calls;
      functions = all.functions;
      no_calls = all.no_calls;
    }
