-- Extents in z that are in their range.
use Rattle.std.proofs.Common.{◌≡◌, get_or, sym, false, List, [], ◌∷◌, map, None, refl, ap, ap₂, ◌∙◌, arith}
use Rattle.std.proofs.Math.ListN.{get_or-map}
use Rattle.std.specs.Prelude.{◌||◌, ℤ, pos, ◌≤ℤ◌, int_lt, unsigned_abs}
use Rattle.std.specs.List.{AllByRecursion}
use Rattle.std.proofs.lemmas.Bool.{or_parts}
use Rattle.std.proofs.lemmas.Int.{ints}
use Rattle.std.proofs.lemmas.List.Elements.{All-from_recursion, recursion_from_All}
use Rattle.wf_model.specs.declared.plan.Field.{Field}
use Rattle.wf_model.specs.declared.plan_fault.PlanFault.TheVariants.{Limit}
use Rattle.wf_model.specs.declared.plan_fault.Which.TheVariants as which
use Rattle.wf_model.specs.Reading.{first_fault}
use Rattle.wf_model.specs.Plans.{no_field, field_of}
use Rattle.wf_model.specs.PlanFields.{z_extents}
use Rattle.wf_model.specs.PlanTests.{extent_fault}
use Rattle.wf_registry_laws.specs.FieldLaws.{IsRangedExtent, field_levels, ExtentsAreTheLevels, ExtentsAreNumbered, PassedExtentsAreRanged}
use Rattle.wf_registry_laws.proofs.Tests.{or_none, if_fails}
use Rattle.wf_registry_laws.proofs.Named.{levels_have_the_extents}

not_below : (a b : ℤ) → int_lt a b ≡ false → b ≤ℤ a
not_below a b e = grind (arith, ints)

passed : (z : ℤ) → extent_fault z ≡ None → IsRangedExtent z
passed z e =
    let h = or_parts (int_lt z (pos 1)) (int_lt (pos 128) z) (if_fails (int_lt z (pos 1) || int_lt (pos 128) z) (Limit which.Extent z) e) in
    record { low = not_below z (pos 1) h.0; high = not_below (pos 128) z h.1 }

each_passed : (zs : List ℤ) → first_fault (map extent_fault zs) ≡ None → AllByRecursion IsRangedExtent zs
each_passed [] e = tt
each_passed (z ∷ zs) e = let h = or_none (extent_fault z) (map extent_fault zs) e in (passed z h.0, each_passed zs h.1)

pub passed_extents_are_ranged : PassedExtentsAreRanged
passed_extents_are_ranged zs e = All-from_recursion IsRangedExtent zs (each_passed zs e)

-- without its sign it is the same
same_number : (z : ℤ) → IsRangedExtent z → pos (unsigned_abs z) ≡ z
same_number z h =
    let low : pos 1 ≤ℤ z = h.low in
    omega (arith, ints)

same_numbers : (zs : List ℤ) → AllByRecursion IsRangedExtent zs → map pos (map unsigned_abs zs) ≡ zs
same_numbers [] h = refl
same_numbers (z ∷ zs) h = ap₂ (λ x xs. x ∷ xs) (same_number z h.0) (same_numbers zs h.1)

numbers : (fs : List Field) → map (λ (f : Field). pos f.nz) fs ≡ map pos (map (λ (f : Field). f.nz) fs)
numbers [] = refl
numbers (f ∷ fs) = ap (λ zs. pos f.nz ∷ zs) (numbers fs)

pub extents_are_the_levels : ExtentsAreTheLevels
extents_are_the_levels config hooks h =
    numbers (field_levels config hooks) ∙ ap (map pos) (levels_have_the_extents config hooks) ∙ same_numbers (z_extents config) (recursion_from_All IsRangedExtent (z_extents config) h)

pub extents_are_numbered : ExtentsAreNumbered
unfolding field_of no_field
extents_are_numbered config hooks plan same h f =
    ap (λ zs. get_or zs f (pos 0)) (sym (extents_are_the_levels config hooks h))
    ∙ get_or-map (λ (x : Field). pos x.nz) (field_levels config hooks) f no_field
    ∙ ap (λ fs. pos (get_or fs f no_field).nz) (sym same)
