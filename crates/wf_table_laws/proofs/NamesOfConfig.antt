-- What holds of the names that a config gives.
use Rattle.std.proofs.Common.{◌≡◌, ℕ, suc, ◌+◌, ◌-◌, ◌<◌, ◌≤◌, ◌==◌, Bool, true, false, nat_lt, List, [], ◌∷◌, length, length-append, map, Option, Some, None, IfSome, option_map, refl, ap, ◌∙◌, subst, arith, if◌then◌else◌}
use Rattle.std.specs.Prelude.{All, flat_map, filter_map, ◌&&◌, ◌||◌}
use Rattle.std.specs.List.{cons_option}
use Rattle.std.specs.Str.{bytes_eq}
use Rattle.std.proofs.lemmas.List.Elements.{All-nil, All-cons, All-append, All-head, All-tail, All-weaker}
use Rattle.wf_model.specs.declared.registry.Entry.{Entry}
use Rattle.wf_model.specs.declared.registry.Entry.TheVariants as entry
use Rattle.wf_model.specs.declared.plan.HaloPart.{HaloPart}
use Rattle.wf_model.specs.declared.plan.PeriodPart.{PeriodPart}
use Rattle.wf_model.specs.Reading.{fault_unless}
use Rattle.wf_model.specs.Letters.{Text, lower, is_digits, digits_value, is_number_within}
use Rattle.wf_model.specs.Entries.{entry_levels, entry_symbol, level_names, is_two}
use Rattle.wf_model.specs.Groups.{groups_of, head_of, names_in, radius_of, points_head, width_head}
use Rattle.wf_model.specs.NamesOf.{levels_in, level_number, fields_from, group_parts, parts_in, halo_part, period_part, halo_of, period_of, names_of}
use Rattle.wf_model.proofs.FirstPlaces.{found}
use Rattle.wf_table_laws.specs.Premises.{IsRangedHaloPart, IsRangedPeriodPart}
use Rattle.wf_table_laws.specs.NamesLaws.{HasGoodHeads, NamesAreRanged, NamesUseLevels}
use Rattle.wf_table_laws.proofs.Finds.{equal_of}
use Rattle.wf_table_laws.proofs.Tokens.{within}

-- ---- lists of lists, and of what is there

All-flat_map : {X Y : Type 0} (P : Y → Type 0) (f : X → List Y) (xs : List X) → All (λ x. All P (f x)) xs → All P (flat_map f xs)
All-flat_map P f [] all = All-nil P
All-flat_map P f (x ∷ xs) all =
    All-append P (f x) (flat_map f xs) (All-head (λ x. All P (f x)) x xs all) (All-flat_map P f xs (All-tail (λ x. All P (f x)) x xs all))

on_front : {Y : Type 0} (P : Y → Type 0) (o : Option Y) (ys : List Y) → IfSome o P → All P ys → All P (cons_option o ys)
on_front P None ys here all = all
on_front P (Some y) ys here all = All-cons P y ys here all

pub All-filter_map : {X Y : Type 0} (P : Y → Type 0) (h : X → Option Y) (xs : List X) → All (λ x. IfSome (h x) P) xs → All P (filter_map h xs)
All-filter_map P h [] all = All-nil P
All-filter_map P h (x ∷ xs) all =
    on_front P (h x) (filter_map h xs) (All-head (λ x. IfSome (h x) P) x xs all) (All-filter_map P h xs (All-tail (λ x. IfSome (h x) P) x xs all))

-- ---- the levels of fields

length-map : {X Y : Type 0} (f : X → Y) (xs : List X) → length (map f xs) ≡ length xs
length-map f [] = refl
length-map f (x ∷ xs) = ap suc (length-map f xs)

-- a field has a level
some_level : (two : Bool) (one both : List Text) → 0 < length one → 0 < length both → 0 < length (if two then both else one)
some_level true one both a b = b
some_level false one both a b = a

-- the numbers of its levels are below the next field's
abbrev pub AreBelow : ℕ → Text × ℕ × ℕ → Type 0
AreBelow n field = (field.1 < n) × (field.2 < n)

symbols_below : (n : ℕ) (e : Entry) → All (AreBelow (n + length (entry_levels e))) (map (λ symbol. (symbol, n, n + length (entry_levels e) - 1)) (entry_symbol e))
symbols_below n (entry.State kind symbol dims levels stagger io dname description units) =
    let some : 0 < length (level_names symbol levels) = some_level (is_two levels) _ _ (omega arith) (omega arith) in
    All-cons (AreBelow (n + length (level_names symbol levels))) (symbol, n, n + length (level_names symbol levels) - 1) [] (omega (arith, some), omega (arith, some)) (All-nil (AreBelow (n + length (level_names symbol levels))))
symbols_below n (entry.Dimspec letter how axis dataset) = All-nil (AreBelow (n + 0))
symbols_below n (entry.Rconfig kind symbol how entries default) = All-nil (AreBelow (n + 0))
symbols_below n (entry.Package name symbol value list) = All-nil (AreBelow (n + 0))
symbols_below n (entry.Halo name groups) = All-nil (AreBelow (n + 0))
symbols_below n (entry.Period name groups) = All-nil (AreBelow (n + 0))

fields_below : (n : ℕ) (es : List Entry) → All (AreBelow (n + length (flat_map levels_in es))) (fields_from n es)
fields_below n [] = All-nil (AreBelow (n + 0))
fields_below n (e ∷ es) =
    let levels = length (entry_levels e) in
    let rest = length (flat_map levels_in es) in
    let all : length (flat_map levels_in (e ∷ es)) ≡ levels + rest = length-append (levels_in e) (flat_map levels_in es) ∙ ap (λ k. k + rest) (length-map (λ name. (name, _)) (entry_levels e)) in
    All-append (AreBelow (n + length (flat_map levels_in (e ∷ es)))) (map (λ symbol. (symbol, n, n + levels - 1)) (entry_symbol e)) (fields_from (n + levels) es)
    (All-weaker (AreBelow (n + levels)) (AreBelow (n + length (flat_map levels_in (e ∷ es)))) (λ f h. (omega (arith, h.0, all), omega (arith, h.1, all))) _ (symbols_below n e))
    (All-weaker (AreBelow (n + levels + rest)) (AreBelow (n + length (flat_map levels_in (e ∷ es)))) (λ f h. (omega (arith, h.0, all), omega (arith, h.1, all))) _ (fields_below (n + levels) es))

-- ---- the parts of halos and periods

-- a property of the parts that are made of a level and of each of these heads
module _ {A : Type 0} (P : A → Type 0) (make : Text → ℕ → A) (levels : List (Text × Bool)) (Head : Text → Type 0)
    (makes : (head : Text) (f : ℕ) → Head head → f < length levels → P (make head f)) where
  part_of : (group name : Text) → Head (head_of group) → (o : Option ℕ) → level_number levels name ≡ o → IfSome (option_map (make (head_of group)) o) P
  part_of group name good None is = tt
  part_of group name good (Some f) is = makes (head_of group) f good (found (λ (l : Text × Bool). bytes_eq l.0 name) levels f is).1

  group_keeps : (group : Text) → Head (head_of group) → All P (group_parts make levels group)
  group_keeps group good =
      All-filter_map P (λ name. option_map (make (head_of group)) (level_number levels (lower name))) (names_in group) (λ k d lt. part_of group _ good _ refl)

  parts_keep : (groups : Text) → All (λ group. Head (head_of group)) (groups_of groups) → All P (parts_in make levels groups)
  parts_keep groups good =
      All-flat_map P (group_parts make levels) (groups_of groups) (All-weaker (λ group. Head (head_of group)) (λ group. All P (group_parts make levels group)) group_keeps (groups_of groups) good)

-- ---- heads

-- a test that finds no fault passes
passes : {F : Type 0} (test : Bool) (fault : F) → fault_unless test fault ≡ None → test ≡ true
passes true fault none = refl
passes false fault none = absurd (some fault none)
  where
    some : {F : Type 0} (f : F) → (let o : Option F = Some f in o) ≡ None → ⊥
    some f e = cc

choice_within : (most : ℕ) (b : Bool) (x y : ℕ) → x ≤ most → y ≤ most → (if b then x else y) ≤ most
choice_within most true x y here there = here
choice_within most false x y here there = there

radius_within : (n : ℕ) → radius_of n ≤ 6
radius_within n =
    choice_within 6 ((n == 4) || (n == 8)) 1 _ (omega arith)
    (choice_within 6 (n == 24) 2 _ (omega arith)
    (choice_within 6 (n == 48) 3 _ (omega arith)
    (choice_within 6 (n == 80) 4 _ (omega arith)
    (choice_within 6 (n == 120) 5 _ (omega arith) (choice_within 6 (n == 168) 6 0 (omega arith) (omega arith))))))

some_radius : (digits : Bool) (radius : ℕ) → (digits && nat_lt 0 radius) ≡ true → 1 ≤ radius
some_radius true radius e = grind arith
some_radius false radius e = grind arith

halo_ranged : (head : Text) (f : ℕ) → points_head head ≡ None → IsRangedHaloPart (halo_part head f)
halo_ranged head f good = record {
  radius = (some_radius (is_digits head) (radius_of (digits_value head)) (passes _ _ good), radius_within (digits_value head));
  cross = λ cross. ap radius_of (equal_of (digits_value head) 4 cross);
}

period_ranged : (head : Text) (f : ℕ) → width_head head ≡ None → IsRangedPeriodPart (period_part head f)
period_ranged head f good = within (is_digits head) 1 6 (digits_value head) (passes (is_number_within 1 6 head) _ good)

-- ---- the entries of a config

module _ (levels : List (Text × Bool)) where
  halo_entry : (e : Entry) → HasGoodHeads e → IfSome (halo_of levels e) (λ (halo : Text × List HaloPart). All IsRangedHaloPart halo.1)
  halo_entry (entry.Halo name groups) good = parts_keep IsRangedHaloPart halo_part levels (λ head. points_head head ≡ None) (λ head f ok lt. halo_ranged head f ok) groups good
  halo_entry (entry.Dimspec letter how axis dataset) good = tt
  halo_entry (entry.State kind symbol dims levels_ stagger io dname description units) good = tt
  halo_entry (entry.Rconfig kind symbol how entries default) good = tt
  halo_entry (entry.Package name symbol value list) good = tt
  halo_entry (entry.Period name groups) good = tt

  period_entry : (e : Entry) → HasGoodHeads e → IfSome (period_of levels e) (λ (period : Text × List PeriodPart). All IsRangedPeriodPart period.1)
  period_entry (entry.Period name groups) good = parts_keep IsRangedPeriodPart period_part levels (λ head. width_head head ≡ None) (λ head f ok lt. period_ranged head f ok) groups good
  period_entry (entry.Dimspec letter how axis dataset) good = tt
  period_entry (entry.State kind symbol dims levels_ stagger io dname description units) good = tt
  period_entry (entry.Rconfig kind symbol how entries default) good = tt
  period_entry (entry.Package name symbol value list) good = tt
  period_entry (entry.Halo name groups) good = tt

  -- any head is one
  every : (groups : Text) → All (λ group. Unit {0}) (groups_of groups)
  every groups = λ k d lt. tt

  halo_known : (e : Entry) → IfSome (halo_of levels e) (λ (halo : Text × List HaloPart). All (λ (p : HaloPart). p.field < length levels) halo.1)
  halo_known (entry.Halo name groups) = parts_keep (λ (p : HaloPart). p.field < length levels) halo_part levels (λ head. Unit {0}) (λ head f ok lt. lt) groups (every groups)
  halo_known (entry.Dimspec letter how axis dataset) = tt
  halo_known (entry.State kind symbol dims levels_ stagger io dname description units) = tt
  halo_known (entry.Rconfig kind symbol how entries default) = tt
  halo_known (entry.Package name symbol value list) = tt
  halo_known (entry.Period name groups) = tt

  period_known : (e : Entry) → IfSome (period_of levels e) (λ (period : Text × List PeriodPart). All (λ (p : PeriodPart). p.field < length levels) period.1)
  period_known (entry.Period name groups) = parts_keep (λ (p : PeriodPart). p.field < length levels) period_part levels (λ head. Unit {0}) (λ head f ok lt. lt) groups (every groups)
  period_known (entry.Dimspec letter how axis dataset) = tt
  period_known (entry.State kind symbol dims levels_ stagger io dname description units) = tt
  period_known (entry.Rconfig kind symbol how entries default) = tt
  period_known (entry.Package name symbol value list) = tt
  period_known (entry.Halo name groups) = tt

-- ---- the laws

pub names_ranged : NamesAreRanged
unfolding names_of
names_ranged config hooks halos periods arities =
    let levels = flat_map levels_in config.fields in
    record {
      halos = All-filter_map (λ (halo : Text × List HaloPart). All IsRangedHaloPart halo.1) (halo_of levels) config.halos (All-weaker HasGoodHeads _ (halo_entry levels) config.halos halos);
      periods = All-filter_map (λ (period : Text × List PeriodPart). All IsRangedPeriodPart period.1) (period_of levels) config.periods (All-weaker HasGoodHeads _ (period_entry levels) config.periods periods);
      hooks = arities;
    }

from_zero : (n : ℕ) → 0 + n ≡ n
from_zero n = omega arith

pub names_levels : NamesUseLevels
unfolding names_of
names_levels config hooks =
    let levels = flat_map levels_in config.fields in
    record {
      fields = subst (λ n. All (AreBelow n) (fields_from 0 config.fields)) (from_zero (length levels)) (fields_below 0 config.fields);
      halos = All-filter_map (λ (halo : Text × List HaloPart). All (λ (p : HaloPart). p.field < length levels) halo.1) (halo_of levels) config.halos (λ k d lt. halo_known levels _);
      periods = All-filter_map (λ (period : Text × List PeriodPart). All (λ (p : PeriodPart). p.field < length levels) period.1) (period_of levels) config.periods (λ k d lt. period_known levels _);
    }
