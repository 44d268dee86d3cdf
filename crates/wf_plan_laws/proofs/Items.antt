-- The items of a table are sound in the plan.
use Rattle.std.proofs.Common.{◌≡◌, ℕ, ◌<◌, List, [], ◌∷◌, length, sym, ap, ◌∙◌, subst}
use Rattle.std.specs.Prelude.{Any}
use Rattle.std.specs.List.{All, AllByRecursion}
use Rattle.std.proofs.lemmas.List.{length-map}
use Rattle.std.proofs.lemmas.List.Elements.{All-from_recursion, recursion_from_All}
use Rattle.wf_model.specs.declared.config.Config.{Config}
use Rattle.wf_model.specs.declared.plan.Plan.{Plan}
use Rattle.wf_model.specs.declared.plan.Item.{Item}
use Rattle.wf_model.specs.declared.plan.Item.TheVariants as item
use Rattle.wf_model.specs.declared.table.HookName.{HookName}
use Rattle.wf_model.specs.declared.table.Names.{Names}
use Rattle.wf_model.specs.Letters.{Text}
use Rattle.wf_model.specs.Plans.{field_of}
use Rattle.wf_model.specs.PlanTests.{phases}
use Rattle.wf_model.specs.NamesOf.{names_of}
use Rattle.wf_model.specs.Sound.{IsSoundItem, IsSoundPhase}
use Rattle.wf_registry_laws.specs.FieldLaws.{field_levels, name_and_z, level, IsNamedPair}
use Rattle.wf_registry_laws.proofs.Named.{names_are_the_levels, named_fields_are_pairs}
use Rattle.wf_table_laws.specs.ItemLaws.{IsOfNames, UsesLevels, IsSoundExchange}
use Rattle.wf_table_laws.specs.NamesLaws.{AreItemsOf}
use Rattle.wf_table_laws.proofs.Follows.{exchanges_sound}
use Rattle.wf_plan_laws.specs.ReadLaws.{NamesLevels}
use Rattle.wf_plan_laws.specs.PartLaws.{PhasesNameLevels, ItemsAreSound}

-- a table has a name for each level of the plan
same_count : (config : Config) (hooks : List HookName) (plan : Plan) → plan.fields ≡ field_levels config hooks → length (names_of config hooks).levels ≡ length plan.fields
same_count config hooks plan same =
    ap length (names_are_the_levels config hooks) ∙ length-map (field_levels config hooks) name_and_z ∙ ap length (sym same)

uses_levels : (config : Config) (hooks : List HookName) (plan : Plan) → plan.fields ≡ field_levels config hooks → AreItemsOf config hooks plan.items → All (UsesLevels (length plan.fields)) plan.items
uses_levels config hooks plan same items = subst (λ n. All (UsesLevels n) plan.items) (same_count config hooks plan same) items.levels

-- ---- phases

phases_name : (plan : Plan) (items : List Item) → AllByRecursion (UsesLevels (length plan.fields)) items → AllByRecursion (NamesLevels plan) (phases items)
phases_name plan [] h = tt
phases_name plan (item.Halo parts ∷ rest) h = phases_name plan rest h.1
phases_name plan (item.Period parts ∷ rest) h = phases_name plan rest h.1
phases_name plan (item.Swap one two ∷ rest) h = phases_name plan rest h.1
phases_name plan (item.Phase ph ∷ rest) h = (record { writes = h.0.0; reads = h.0.1 }, phases_name plan rest h.1)

pub phases_name_levels : PhasesNameLevels
phases_name_levels config hooks plan same items =
    All-from_recursion (NamesLevels plan) (phases plan.items)
    (phases_name plan plan.items (recursion_from_All (UsesLevels (length plan.fields)) plan.items (uses_levels config hooks plan same items)))

-- ---- swaps

-- what holds of one that stands in a list of which it all holds
any_of : {X : Type 0} (P Q : X → Type 0) (xs : List X) (R : Type 0) → All P xs → Any Q xs → ((x : X) → P x → Q x → R) → R
any_of P Q xs R all any f = f any.1 (subst P any.3 (all any.0 any.1 any.2)) any.4

swap_pair : (plan : Plan) (one two : ℕ) (n : Text × ℕ × ℕ) → IsNamedPair plan.fields n → (n.1 ≡ one) × (n.2 ≡ two) → (one < length plan.fields) × ((field_of plan one).pair ≡ two)
unfolding field_of
swap_pair plan one two n pair same =
    (subst (λ k. k < length plan.fields) same.0 pair.first, ap (λ k. (level plan.fields k).pair) (sym same.0) ∙ pair.pair ∙ same.1)

-- ---- all items

sound_items : (plan : Plan) (names : Names) (items : List Item) → All (IsNamedPair plan.fields) names.fields → AllByRecursion (IsOfNames names) items → AllByRecursion (IsSoundExchange plan) items
    → AllByRecursion (IsSoundPhase plan) (phases items) → AllByRecursion (IsSoundItem plan) items
sound_items plan names [] pairs is exchange sound = tt
sound_items plan names (item.Halo parts ∷ rest) pairs is exchange sound = (exchange.0, sound_items plan names rest pairs is.1 exchange.1 sound)
sound_items plan names (item.Period parts ∷ rest) pairs is exchange sound = (exchange.0, sound_items plan names rest pairs is.1 exchange.1 sound)
sound_items plan names (item.Swap one two ∷ rest) pairs is exchange sound =
    let pair = any_of (IsNamedPair plan.fields) (λ (field : Text × ℕ × ℕ). (field.1 ≡ one) × (field.2 ≡ two)) names.fields ((one < length plan.fields) × ((field_of plan one).pair ≡ two)) pairs is.0.0 (swap_pair plan one two) in
    ((pair.0, pair.1, is.0.1), sound_items plan names rest pairs is.1 exchange.1 sound)
sound_items plan names (item.Phase ph ∷ rest) pairs is exchange sound = (sound.0, sound_items plan names rest pairs is.1 exchange.1 sound.1)

pub items_are_sound : ItemsAreSound
items_are_sound config hooks plan same items sound =
    let names = names_of config hooks in
    let pairs : All (IsNamedPair plan.fields) names.fields = subst (λ fs. All (IsNamedPair fs) names.fields) (sym same) (named_fields_are_pairs config hooks) in
    let exchange = exchanges_sound plan plan.items (uses_levels config hooks plan same items) items.ranged items.crosses in
    All-from_recursion (IsSoundItem plan) plan.items
    (sound_items plan names plan.items pairs (recursion_from_All (IsOfNames names) plan.items items.names) (recursion_from_All (IsSoundExchange plan) plan.items exchange)
    (recursion_from_All (IsSoundPhase plan) (phases plan.items) sound))
