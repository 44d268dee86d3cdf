-- What the parts of an IO column stand for, and the part at the front.
use Rattle.std.specs.Prelude.{ℕ, ◌==◌, Bool, false, [], ◌∷◌, drop, Some, Result, Ok, Err}
use Rattle.wf_model.specs.declared.registry.RegistryKind.{RegistryKind}
use Rattle.wf_model.specs.declared.registry.RegistryKind.TheVariants.{Columns}
use Rattle.wf_model.specs.Reading.{◌>>=◌}
use Rattle.wf_model.specs.Letters.{Text}
use Rattle.wf_model.specs.Io.{IoPart, Sized, input, output, restarted, smoothed, fed, io_part}
use Rattle.wf_plan_fields.specs.declared.io.Use.{Use}
use Rattle.wf_plan_fields.specs.declared.io.Use.TheVariants as use_of
use Rattle.wf_plan_fields.specs.declared.io.Part.{Part}
use Rattle.wf_plan_fields.specs.declared.io.Part.TheVariants as part

-- the letter of the column
abbrev pub letter_of : Use → ℕ
letter_of use_of.Up = 117
letter_of use_of.Down = 100
letter_of use_of.Edge = 102

abbrev pub part_of : Part → IoPart
part_of (part.Input ss) = input ss
part_of (part.Output ss) = output ss
part_of part.Restarted = restarted
part_of part.Smoothed = smoothed
part_of (part.Fed purpose name) = fed (letter_of purpose) name

-- a part, and how many bytes it has after its first
abbrev pub sized_of : Part × ℕ → Sized
sized_of p = (part_of p.0, p.1)

-- the part at the front, and what stands behind it
abbrev pub first_part : Text → Result (IoPart × Text) RegistryKind
first_part [] = Err Columns
first_part (b ∷ bs) = io_part b bs >>= λ p. Ok (p.0, drop p.1 bs)

-- ---- functions

-- of a letter
abbrev pub is_fed : ℕ → IoPart → Bool
is_fed letter (fed l name) = l == letter
is_fed letter p = false

-- the function that a part names, or else the usual one
abbrev pub named_in : Text → IoPart → Text
named_in usual (fed l (Some name)) = name
named_in usual p = usual
