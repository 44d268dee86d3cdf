-- The levels of one entry: two or one, or none.
use Rattle.std.proofs.Common.{◌≡◌, ℕ, ◌+◌, ◌-◌, Bool, true, false, List, [], ◌∷◌, length, refl, eqb}
use Rattle.std.specs.Prelude.{if◌then◌else◌, flat_map}
use Rattle.std.specs.List.{enumerate_from}
use Rattle.wf_model.specs.declared.registry.Entry.{Entry}
use Rattle.wf_model.specs.declared.registry.Entry.TheVariants.{Dimspec, State, Rconfig, Package, Halo, Period}
use Rattle.wf_model.specs.declared.config.Config.{Config}
use Rattle.wf_model.specs.declared.plan.Field.{Field}
use Rattle.wf_model.specs.declared.table.HookName.{HookName}
use Rattle.wf_model.specs.Letters.{Text}
use Rattle.wf_model.specs.Plans.{no_field}
use Rattle.wf_model.specs.Entries.{entry_levels, level_names, suffixed, is_two}
use Rattle.wf_model.specs.PlanFields.{level_field}

-- ---- two levels or one

by_shape : (P : List Text → Type 0) (two : Bool) (symbol : Text) → ((a b : Text) → P (a ∷ b ∷ [])) → ((a : Text) → P (a ∷ [])) → P (if two then suffixed symbol else symbol ∷ [])
by_shape P true symbol of_two of_one = of_two _ _
by_shape P false symbol of_two of_one = of_one symbol

pub by_levels : (P : List Text → Type 0) (symbol levels : Text) → ((a b : Text) → P (a ∷ b ∷ [])) → ((a : Text) → P (a ∷ [])) → P (level_names symbol levels)
by_levels P symbol levels of_two of_one = by_shape P (is_two levels) symbol of_two of_one

-- ---- levels made of one that says what they have in common

abbrev pub made : Field → List Text → ℕ → ℕ × Text → Field
made f names first level = record f { name = level.1; pair = first + (length names - 1 - level.0); last = eqb (level.0 + 1) (length names) }

abbrev pub all_made : Field → List Text → ℕ → List Field
all_made f names first = flat_map (λ level. made f names first level ∷ []) (enumerate_from 0 names)

abbrev pub of_first : List Field → Field
of_first [] = no_field
of_first (f ∷ fs) = f

-- what the levels of an entry have in common
abbrev pub common : Config → List HookName → Entry → Field
common config hooks e = of_first (level_field config hooks e 0 (0, []))

-- the levels of an entry
abbrev pub own_levels : Config → List HookName → Entry → ℕ → List Field
own_levels config hooks e first = flat_map (level_field config hooks e first) (enumerate_from 0 (entry_levels e))

pub own_is_made : (config : Config) (hooks : List HookName) (e : Entry) (first : ℕ) → own_levels config hooks e first ≡ all_made (common config hooks e) (entry_levels e) first
own_is_made config hooks (State kind symbol dims levels stagger io dname description units) first = refl
own_is_made config hooks (Dimspec letter how axis dataset) first = refl
own_is_made config hooks (Rconfig kind symbol how entries default) first = refl
own_is_made config hooks (Package name symbol value list) first = refl
own_is_made config hooks (Halo name groups) first = refl
own_is_made config hooks (Period name groups) first = refl

-- what holds of the levels of two names, of one and of none, holds of those of an entry
pub by_entry : (P : List Text → Type 0) (e : Entry) → ((a b : Text) → P (a ∷ b ∷ [])) → ((a : Text) → P (a ∷ [])) → P [] → P (entry_levels e)
by_entry P (State kind symbol dims levels stagger io dname description units) two one none = by_levels P symbol levels two one
by_entry P (Dimspec letter how axis dataset) two one none = none
by_entry P (Rconfig kind symbol how entries default) two one none = none
by_entry P (Package name symbol value list) two one none = none
by_entry P (Halo name groups) two one none = none
by_entry P (Period name groups) two one none = none
