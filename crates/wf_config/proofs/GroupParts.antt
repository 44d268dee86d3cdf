-- The parts of a group of a halo or a period are its levels' numbers, with what the head says.
use Rattle.std.proofs.Common.{◌≡◌, ℕ, ◌==◌, ◌≤◌, Bool, List, [], ◌∷◌, ◌++◌, Option, Some, None, map, length, take, refl, sym, ap, ap₂, ◌∙◌}
use Rattle.std.specs.List.{cons_option, filter_map}
use Rattle.std.specs.Option.{option_map}
use Rattle.std.proofs.lemmas.List.{take_all}
use Rattle.wf_model.specs.declared.plan.HaloPart.{HaloPart}
use Rattle.wf_model.specs.declared.plan.PeriodPart.{PeriodPart}
use Rattle.wf_model.specs.Letters.{Text, digits_value, lower}
use Rattle.wf_model.specs.Groups.{head_of, names_in, radius_of}
use Rattle.wf_model.specs.NamesOf.{group_parts, halo_part, level_number, period_part}
use Rattle.wf_config.specs.NameParts.{level_numbers}

or_made : {A B : Type 0} (g : A → B) (o : Option A) (xs : List A) (ys : List B) → ys ≡ map g xs → cons_option (option_map g o) ys ≡ map g (cons_option o xs)
or_made g None xs ys e = e
or_made g (Some a) xs ys e = ap (λ r. g a ∷ r) e

made_of : {A B X : Type 0} (g : A → B) (h : X → Option A) (xs : List X) → filter_map (λ x. option_map g (h x)) xs ≡ map g (filter_map h xs)
made_of g h [] = refl
made_of g h (x ∷ xs) = or_made g (h x) (filter_map h xs) (filter_map (λ y. option_map g (h y)) xs) (made_of g h xs)

parts_made : {A : Type 0} (make : Text → ℕ → A) (levels : List (Text × Bool)) (group : Text) → group_parts make levels group ≡ map (make (head_of group)) (level_numbers levels group)
parts_made make levels group = made_of (make (head_of group)) (λ name. level_number levels (lower name)) (names_in group)

abbrev part : Bool → ℕ → ℕ → HaloPart
part cross radius f = record { field = f; cross = cross; radius = radius }

pub halo_made : (levels : List (Text × Bool)) (group : Text) (front made : List HaloPart) (numbers : List ℕ) (i points radius : ℕ)
    → length numbers ≤ i → numbers ≡ level_numbers levels group → points ≡ digits_value (head_of group) → radius ≡ radius_of points
    → made ≡ front ++ map (λ f. record { field = f; cross = points == 4; radius = radius }) (take i numbers)
    → made ≡ front ++ group_parts halo_part levels group
halo_made levels group front made numbers i points radius end are count wide so_far =
    so_far
    ∙ ap (λ ns. front ++ map (part (points == 4) radius) ns) (take_all i numbers end ∙ are)
    ∙ ap₂ (λ p r. front ++ map (part (p == 4) r) (level_numbers levels group)) count (wide ∙ ap radius_of count)
    ∙ ap (λ r. front ++ r) (sym (parts_made halo_part levels group))

pub period_made : (levels : List (Text × Bool)) (group : Text) (front made : List PeriodPart) (numbers : List ℕ) (i width : ℕ)
    → length numbers ≤ i → numbers ≡ level_numbers levels group → width ≡ digits_value (head_of group)
    → made ≡ front ++ map (λ f. record { field = f; width = width }) (take i numbers)
    → made ≡ front ++ group_parts period_part levels group
period_made levels group front made numbers i width end are wide so_far =
    so_far
    ∙ ap (λ ns. front ++ map (λ f. record { field = f; width = width }) ns) (take_all i numbers end ∙ are)
    ∙ ap (λ w. front ++ map (λ f. record { field = f; width = w }) (level_numbers levels group)) wide
    ∙ ap (λ r. front ++ r) (sym (parts_made period_part levels group))
