-- Groups of names, as of a package, a halo and a period: head:name,name;head:name.
use Rattle.std.specs.Prelude.{ℕ, ◌==◌, Bool, ◌&&◌, ◌||◌, nat_lt, List, [], ◌∷◌, Option}
use Rattle.std.specs.Prelude.{if◌then◌else◌, codes}
use Rattle.std.specs.List.{list_all, before_first, after_first, slice_split}
use Rattle.std.specs.Str.{bytes_eq}
use Rattle.wf_model.specs.declared.registry.RegistryKind.{RegistryKind}
use Rattle.wf_model.specs.declared.registry.RegistryKind.TheVariants.{Unsupported, Columns}
use Rattle.wf_model.specs.declared.registry.RegistryKind.TheVariants.{BadPoints}
use Rattle.wf_model.specs.Reading.{fault_unless}
use Rattle.wf_model.specs.Letters.{Text, is_name, is_digits, digits_value, is_number_within}
use Rattle.wf_model.specs.ValueForms.{has}
use Rattle.wf_model.specs.Io.{is_colon}

-- what is wrong in order, or nothing at each
abbrev pub Faults : Type 0
Faults = List (Option RegistryKind)

abbrev pub is_semicolon : ℕ → Bool
is_semicolon b = b == 59

abbrev pub is_comma : ℕ → Bool
is_comma b = b == 44

-- the groups of a word
abbrev pub groups_of : Text → List Text
groups_of word = slice_split is_semicolon word

-- what stands before the colon
abbrev pub head_of : Text → Text
head_of group = before_first is_colon group

-- the names behind the colon
abbrev pub names_in : Text → List Text
names_in group = slice_split is_comma (after_first is_colon group)

-- the head by a rule of its own
abbrev pub group_faults : (Text → Option RegistryKind) → Text → Faults
group_faults head group =
    fault_unless (has is_colon group) Columns ∷ head (head_of group)
    ∷ fault_unless (list_all is_name (names_in group)) Columns ∷ []

-- ---- heads: `state`, the points of a halo, the width of a period

-- only state variables are listed
abbrev pub state_head : Text → Option RegistryKind
state_head head = fault_unless (bytes_eq head (codes "state")) Unsupported

-- the radius of a halo of so many points
abbrev pub radius_of : ℕ → ℕ
radius_of points =
    if (points == 4) || (points == 8) then 1
    else (if points == 24 then 2 else (if points == 48 then 3 else (if points
    == 80 then 4 else (if points == 120 then 5 else (if points == 168 then 6 else 0)))))

-- a number of points that a halo may have
abbrev pub points_head : Text → Option RegistryKind
points_head head =
    fault_unless (is_digits head && nat_lt 0 (radius_of (digits_value head))) BadPoints

-- 1 to 6
abbrev pub width_head : Text → Option RegistryKind
width_head head = fault_unless (is_number_within 1 6 head) BadPoints
