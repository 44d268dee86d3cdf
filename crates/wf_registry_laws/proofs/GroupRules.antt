-- Rconfigs, packages, halos and periods whose columns have no fault are sound.
use Rattle.std.proofs.Common.{◌≡◌, ◌⊎◌, inl, inr, Bool, true, false, List, [], ◌∷◌, Option, Some, None, refl, sym, ap, ◌∙◌}
use Rattle.std.specs.Prelude.{if◌then◌else◌, flat_map, All, IsTrue, codes}
use Rattle.std.specs.List.{list_all, AllByRecursion}
use Rattle.std.specs.Option.{option_or}
use Rattle.std.proofs.lemmas.Bool.{and_parts}
use Rattle.std.proofs.lemmas.List.Concat.{flat_map-cons}
use Rattle.std.proofs.lemmas.List.Elements.{All-from_recursion}
use Rattle.wf_model.proofs.ReadingLemmas.{first_fault-append}
use Rattle.wf_model.specs.declared.registry.Entry.{Entry}
use Rattle.wf_model.specs.declared.registry.RegistryKind.{RegistryKind}
use Rattle.wf_model.specs.declared.registry.RegistryKind.TheVariants.{Columns, BadNumber, Duplicate}
use Rattle.wf_model.specs.Reading.{fault_if, fault_unless, first_fault}
use Rattle.wf_model.specs.Letters.{Text, is_name, is_dash, lower, begins, behind}
use Rattle.wf_model.specs.ValueForms.{is_whole_in}
use Rattle.wf_model.specs.Groups.{groups_of, names_in, group_faults, state_head}
use Rattle.wf_model.specs.Entries.{Kind, packages, column, declares, package_symbol, package_value, joined_groups}
use Rattle.wf_model.specs.Judging.{rconfig_faults, is_package_condition, package_faults, exchange_faults}
use Rattle.wf_registry_laws.specs.EntryRules.{IsSoundRconfig, IsSoundGroup, IsSoundPackage, IsSoundExchange}
use Rattle.wf_registry_laws.proofs.Tests.{no_faults, or_none, unless_passes}
use Rattle.wf_registry_laws.proofs.Names.{is_name_lower}

-- ---- rconfigs

pub rconfig_is_sound : (before : List Entry) (cols : List Text) → first_fault (rconfig_faults before cols) ≡ None
    → IsSoundRconfig (column cols 0) (lower (column cols 1)) (column cols 2) (column cols 3) (column cols 4)
rconfig_is_sound before cols e =
    let h = no_faults (rconfig_faults before cols) e in
    record {
      type = h.0;
      named = unless_passes _ Columns h.1.0;
      how_is = unless_passes _ Columns h.1.1.1.0;
      count = h.1.1.1.1.0;
      default_is = unless_passes _ BadNumber h.1.1.1.1.1.0;
    }

-- ---- groups

names_pass : (p : Text → Bool) (ns : List Text) → list_all p ns ≡ true → AllByRecursion (λ n. IsTrue (p n)) ns
names_pass p [] e = tt
names_pass p (n ∷ ns) e = let h = and_parts (p n) (list_all p ns) e in (h.0, names_pass p ns h.1)

-- the first of two lists of tests, and the second
both_none : {F : Type 0} (a b : Option F) → option_or a b ≡ None → (a ≡ None) × (b ≡ None)
both_none None b e = (refl, e)
both_none (Some f) b e = cc

group_is_sound : (head : Text → Option RegistryKind) (group : Text) → first_fault (group_faults head group) ≡ None → IsSoundGroup head group
group_is_sound head group e =
    let h = no_faults (group_faults head group) e in
    record {
      colon = unless_passes _ Columns h.0;
      first = h.1.0;
      names = All-from_recursion (λ name. IsTrue (is_name name)) (names_in group) (names_pass is_name (names_in group) (unless_passes _ Columns h.1.1.0));
    }

each_group : (head : Text → Option RegistryKind) (groups : List Text) → first_fault (flat_map (group_faults head) groups) ≡ None → AllByRecursion (IsSoundGroup head) groups
each_group head [] e = tt
each_group head (g ∷ gs) e =
    let parted : option_or (first_fault (group_faults head g)) (first_fault (flat_map (group_faults head) gs)) ≡ None =
    sym (first_fault-append (group_faults head g) (flat_map (group_faults head) gs)) ∙ sym (ap first_fault (flat_map-cons (group_faults head) g gs)) ∙ e in
    let h = both_none (first_fault (group_faults head g)) (first_fault (flat_map (group_faults head) gs)) parted in
    (group_is_sound head g h.0, each_group head gs h.1)

groups_are_sound : (head : Text → Option RegistryKind) (groups : List Text) → first_fault (flat_map (group_faults head) groups) ≡ None → All (IsSoundGroup head) groups
groups_are_sound head groups e = All-from_recursion (IsSoundGroup head) groups (each_group head groups e)

-- ---- packages

listed : (dash : Bool) (groups : List Text) → first_fault (if dash then [] else flat_map (group_faults state_head) groups) ≡ None → (dash ≡ true) ⊎ All (IsSoundGroup state_head) groups
listed true groups e = inl refl
listed false groups e = inr (groups_are_sound state_head groups e)

pub package_is_sound : (before : List Entry) (cols : List Text) → first_fault (package_faults before cols) ≡ None
    → IsSoundPackage (lower (column cols 0)) (lower (package_symbol (column cols 1))) (column cols 3)
package_is_sound before cols e =
    let first = fault_unless (is_name (column cols 0)) Columns in
    let second = fault_if (declares packages (lower (column cols 0)) before) Duplicate in
    let third = fault_unless (is_package_condition (column cols 1)) Columns in
    let fourth = fault_unless (is_whole_in 32 (package_value (column cols 1))) BadNumber in
    let rest = if is_dash (column cols 3) then [] else flat_map (group_faults state_head) (groups_of (column cols 3)) in
    let a = or_none first (second ∷ third ∷ fourth ∷ rest) e in
    let b = or_none second (third ∷ fourth ∷ rest) a.1 in
    let c = or_none third (fourth ∷ rest) b.1 in
    let d = or_none fourth rest c.1 in
    record {
      named = is_name_lower (column cols 0) (unless_passes _ Columns a.0);
      by = is_name_lower (package_symbol (column cols 1)) (and_parts (is_name (package_symbol (column cols 1))) (begins (behind (column cols 1) (package_symbol (column cols 1))) (codes "==")) (unless_passes _ Columns c.0)).0;
      groups = listed (is_dash (column cols 3)) (groups_of (column cols 3)) d.1;
    }

-- ---- halos and periods

pub exchange_is_sound : (kind : Kind) (head : Text → Option RegistryKind) (before : List Entry) (cols : List Text) → first_fault (exchange_faults kind head before cols) ≡ None
    → IsSoundExchange head (lower (column cols 0)) (joined_groups cols)
exchange_is_sound kind head before cols e =
    let first = fault_unless (is_name (column cols 0)) Columns in
    let second = fault_if (declares kind (lower (column cols 0)) before) Duplicate in
    let rest = flat_map (group_faults head) (groups_of (joined_groups cols)) in
    let a = or_none first (second ∷ rest) e in
    let b = or_none second rest a.1 in
    record {
      named = is_name_lower (column cols 0) (unless_passes _ Columns a.0);
      parts = groups_are_sound head (groups_of (joined_groups cols)) b.1;
    }
