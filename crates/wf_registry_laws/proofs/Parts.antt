-- The parts of halos and periods of a sound config are sound.
use Rattle.std.proofs.Common.{◌≡◌, ℕ, ◌<◌, ◌≤◌, Bool, true, false, List, [], ◌∷◌, length, Option, Some, None, refl, sym, subst, eqb, arith}
use Rattle.std.specs.Prelude.{◌&&◌, nat_lt, nat_le, flat_map, filter_map, option_map, All}
use Rattle.std.specs.List.{AllByRecursion, cons_option}
use Rattle.std.specs.Str.{bytes_eq}
use Rattle.std.proofs.lemmas.Bool.{and_parts, ltb-true, leb-true}
use Rattle.std.proofs.lemmas.Bool.Decides.{nat_tests}
use Rattle.std.proofs.lemmas.List.Concat.{flat_map-cons}
use Rattle.std.proofs.lemmas.List.Elements.{All-from_recursion, recursion_from_All}
use Rattle.std.proofs.lemmas.List.Quantifiers.{position-Some}
use Rattle.wf_model.specs.declared.registry.Entry.{Entry}
use Rattle.wf_model.specs.declared.registry.Entry.TheVariants.{Dimspec, State, Rconfig, Package, Halo, Period}
use Rattle.wf_model.specs.declared.registry.RegistryKind.{RegistryKind}
use Rattle.wf_model.specs.declared.registry.RegistryKind.TheVariants.{BadPoints}
use Rattle.wf_model.specs.declared.plan.HaloPart.{HaloPart}
use Rattle.wf_model.specs.declared.plan.PeriodPart.{PeriodPart}
use Rattle.wf_model.specs.Letters.{Text, is_digits, digits_value, lower}
use Rattle.wf_model.specs.Groups.{groups_of, head_of, names_in, radius_of, points_head, width_head}
use Rattle.wf_model.specs.NamesOf.{levels_in, level_number, group_parts, parts_in, halo_part, period_part, halo_of, period_of, names_of}
use Rattle.wf_registry_laws.specs.EntryRules.{IsSoundGroup}
use Rattle.wf_registry_laws.specs.ConfigLaws.{IsSoundHalo, IsSoundPeriod}
use Rattle.wf_registry_laws.specs.PartLaws.{IsNamedHaloPart, IsNamedPeriodPart, NamedPartsAreSound}
use Rattle.wf_registry_laws.proofs.Tests.{unless_passes}
use Rattle.wf_registry_laws.proofs.Distinct.{each-append}

-- ---- numbers of points and widths

radius_low : (points : ℕ) → radius_of points ≤ 6
radius_low points = grind (arith, nat_tests)

radius_cross : (points : ℕ) → eqb points 4 ≡ true → radius_of points ≡ 1
radius_cross points e = grind (arith, nat_tests)

-- ---- the number of a name is below the number of levels

found_below : (levels : List (Text × Bool)) (name : Text) (f : ℕ) → level_number levels name ≡ Some f → f < length levels
found_below levels name f e = (position-Some (λ (l : Text × Bool). bytes_eq l.0 name) levels f ([], false) e).0

-- what each name gives is sound, where its number is below the count
part_more : {A : Type 0} (P : A → Type 0) (make : ℕ → A) (count : ℕ) (found : Option ℕ) (parts : List A) → ((f : ℕ) → f < count → P (make f)) → ((f : ℕ) → found ≡ Some f → f < count) → AllByRecursion P parts
    → AllByRecursion P (cons_option (option_map make found) parts)
part_more P make count None parts each below rest = rest
part_more P make count (Some f) parts each below rest = (each f (below f refl), rest)

names_sound : {A : Type 0} (P : A → Type 0) (make : ℕ → A) (levels : List (Text × Bool)) (names : List Text) → ((f : ℕ) → f < length levels → P (make f))
    → AllByRecursion P (filter_map (λ name. option_map make (level_number levels (lower name))) names)
names_sound P make levels [] each = tt
names_sound P make levels (name ∷ names) each =
    part_more P make (length levels) (level_number levels (lower name)) (filter_map (λ n. option_map make (level_number levels (lower n))) names) each (found_below levels (lower name)) (names_sound P make levels names each)

groups_sound : {A : Type 0} (P : A → Type 0) (head : Text → Option RegistryKind) (make : Text → ℕ → A) (levels : List (Text × Bool)) (groups : List Text)
    → ((h : Text) → head h ≡ None → (f : ℕ) → f < length levels → P (make h f)) → AllByRecursion (IsSoundGroup head) groups → AllByRecursion P (flat_map (group_parts make levels) groups)
groups_sound P head make levels [] each sound = tt
groups_sound P head make levels (g ∷ gs) each sound =
    subst (λ ps. AllByRecursion P ps) (sym (flat_map-cons (group_parts make levels) g gs))
    (each-append P (group_parts make levels g) (flat_map (group_parts make levels) gs) (names_sound P (make (head_of g)) levels (names_in g) (each (head_of g) sound.0.first))
    (groups_sound P head make levels gs each sound.1))

-- ---- halos

halo_part_sound : (count : ℕ) (points : Text) → points_head points ≡ None → (f : ℕ) → f < count → IsNamedHaloPart count (halo_part points f)
halo_part_sound count points e f below =
    let h = and_parts (is_digits points) (nat_lt 0 (radius_of (digits_value points))) (unless_passes _ BadPoints e) in
    record {
      level = below;
      radius = (ltb-true 0 (radius_of (digits_value points)) h.1, radius_low (digits_value points));
      cross = radius_cross (digits_value points);
    }

abbrev HaloIsSound : ℕ → Text × List HaloPart → Type 0
HaloIsSound count h = All (IsNamedHaloPart count) h.1

halos_sound : (levels : List (Text × Bool)) (es : List Entry) → AllByRecursion IsSoundHalo es → AllByRecursion (HaloIsSound (length levels)) (filter_map (halo_of levels) es)
halos_sound levels [] sound = tt
halos_sound levels (Halo name groups ∷ es) sound = (
  All-from_recursion (IsNamedHaloPart (length levels)) (parts_in halo_part levels groups)
      (groups_sound (IsNamedHaloPart (length levels)) points_head halo_part levels (groups_of groups) (halo_part_sound (length levels)) (recursion_from_All (IsSoundGroup points_head) (groups_of groups) sound.0.parts)),
  halos_sound levels es sound.1,
)
halos_sound levels (Dimspec letter how axis dataset ∷ es) sound = absurd sound.0
halos_sound levels (State kind symbol dims levs stagger io dname description units ∷ es) sound = absurd sound.0
halos_sound levels (Rconfig kind symbol how entries default ∷ es) sound = absurd sound.0
halos_sound levels (Package name symbol value list ∷ es) sound = absurd sound.0
halos_sound levels (Period name groups ∷ es) sound = absurd sound.0

-- ---- periods

period_part_sound : (count : ℕ) (width : Text) → width_head width ≡ None → (f : ℕ) → f < count → IsNamedPeriodPart count (period_part width f)
period_part_sound count width e f below =
    let h = and_parts (is_digits width && nat_le 1 (digits_value width)) (nat_le (digits_value width) 6) (unless_passes _ BadPoints e) in
    let low = and_parts (is_digits width) (nat_le 1 (digits_value width)) h.0 in
    record { level = below; width = (leb-true 1 (digits_value width) low.1, leb-true (digits_value width) 6 h.1) }

abbrev PeriodIsSound : ℕ → Text × List PeriodPart → Type 0
PeriodIsSound count p = All (IsNamedPeriodPart count) p.1

periods_sound : (levels : List (Text × Bool)) (es : List Entry) → AllByRecursion IsSoundPeriod es → AllByRecursion (PeriodIsSound (length levels)) (filter_map (period_of levels) es)
periods_sound levels [] sound = tt
periods_sound levels (Period name groups ∷ es) sound = (
  All-from_recursion (IsNamedPeriodPart (length levels)) (parts_in period_part levels groups)
      (groups_sound (IsNamedPeriodPart (length levels)) width_head period_part levels (groups_of groups) (period_part_sound (length levels)) (recursion_from_All (IsSoundGroup width_head) (groups_of groups) sound.0.parts)),
  periods_sound levels es sound.1,
)
periods_sound levels (Dimspec letter how axis dataset ∷ es) sound = absurd sound.0
periods_sound levels (State kind symbol dims levs stagger io dname description units ∷ es) sound = absurd sound.0
periods_sound levels (Rconfig kind symbol how entries default ∷ es) sound = absurd sound.0
periods_sound levels (Package name symbol value list ∷ es) sound = absurd sound.0
periods_sound levels (Halo name groups ∷ es) sound = absurd sound.0

-- ---- the names of a config

pub named_parts_are_sound : NamedPartsAreSound
unfolding names_of
named_parts_are_sound config hooks sound =
    let levels = flat_map levels_in config.fields in
    record {
      halos = All-from_recursion (HaloIsSound (length levels)) (filter_map (halo_of levels) config.halos) (halos_sound levels config.halos (recursion_from_All IsSoundHalo config.halos sound.halos));
      periods = All-from_recursion (PeriodIsSound (length levels)) (filter_map (period_of levels) config.periods) (periods_sound levels config.periods (recursion_from_All IsSoundPeriod config.periods sound.periods));
    }
