-- What a run begins with, from its input and restart files, or the first refusal.
use Rattle.std.specs.Prelude.{ℕ, ◌+◌, ◌*◌, ◌==◌, Bool, true, false, not, ◌&&◌, ◌||◌, nat_le, List}
use Rattle.std.specs.Prelude.{[], ◌∷◌, ◌++◌, length, map, filter, find, replicate, ℤ, pos, int_lt}
use Rattle.std.specs.Prelude.{int_le, Option, Some, None, Result, Ok, Err, if◌then◌else◌, codes}
use Rattle.std.specs.Prelude.{unwrap_or}
use Rattle.std.specs.List.{list_any}
use Rattle.std.specs.Str.{bytes_eq}
use Rattle.std.specs.Slice.Scan.{big_endian}
use Rattle.wf_model.specs.declared.plan.Plan.{Plan}
use Rattle.wf_model.specs.declared.header.Header.{Header}
use Rattle.wf_model.specs.declared.header.Att.{Att}
use Rattle.wf_model.specs.declared.initial.Begin.{Begin}
use Rattle.wf_model.specs.declared.initial.Initial.{Initial}
use Rattle.wf_model.specs.declared.cdf_error.SlabError.{SlabError}
use Rattle.wf_model.specs.declared.cdf_error.SlabError.TheVariants as slab
use Rattle.wf_model.specs.declared.plan_fault.InputFault.{InputFault}
use Rattle.wf_model.specs.declared.plan_fault.InputKind.{InputKind}
use Rattle.wf_model.specs.declared.plan_fault.InputKind.TheVariants as kind
use Rattle.wf_model.specs.Reading.{◌>>=◌, each, told_as, fault_if, fault_unless, first_fault}
use Rattle.wf_model.specs.Reading.{unless_fault}
use Rattle.wf_model.specs.Letters.{Text}
use Rattle.wf_model.specs.Calendar.{moment_of, two_digits, time_text}
use Rattle.wf_model.specs.Dates.{is_stamp, seconds_before}
use Rattle.wf_model.specs.Grids.{listed, grid_from}
use Rattle.wf_model.specs.Plans.{domain_of, field_of, domains_of, levels_of, nx, ny, nz}
use Rattle.wf_model.specs.Script.{restart_stream, not_before}
use Rattle.wf_model.specs.Streams.{file_x, file_y, file_name, variable_name}
use Rattle.wf_model.specs.Headers.{text_att}
use Rattle.wf_model.specs.Sizes.{product}
use Rattle.wf_model.specs.CdfRead.{header_at, slab_bytes_of, ints}
use Rattle.wf_model.specs.CdfRead as cdf
use Rattle.wf_model.specs.Files.{Files}

-- ---- variables of a file

-- a variable that is asked for: its name, type and shape, of the first record
pub record Asked : Type 0 where
  pub name : Text
  pub type : ℕ
  pub shape : List ℕ

abbrev pub asked : Text → ℕ → List ℕ → Asked
asked name type shape = record { name = name; type = type; shape = shape }

-- the bytes of a variable in record 0, or why there are none
abbrev pub slab_read : List ℕ → Header → Asked → Result (List ℕ) SlabError
slab_read bytes h a = slab_bytes_of bytes h (find (cdf.has_name a.name) h.vars) a.type a.shape 0

abbrev pub is_no_variable : Result (List ℕ) SlabError → Bool
is_no_variable (Err slab.NoVariable) = true
is_no_variable other = false

abbrev pub is_wrong_type : Result (List ℕ) SlabError → Bool
is_wrong_type (Err slab.WrongType) = true
is_wrong_type other = false

abbrev pub is_wrong_shape : Result (List ℕ) SlabError → Bool
is_wrong_shape (Err slab.WrongShape) = true
is_wrong_shape other = false

abbrev pub is_truncated : Result (List ℕ) SlabError → Bool
is_truncated (Err (slab.Truncated at)) = true
is_truncated other = false

-- kind by kind over all variables. A file that is cut off has its length as the place
abbrev pub slabs_fault : List ℕ → List (Result (List ℕ) SlabError) → Option InputKind
slabs_fault bytes slabs = first_fault (
    fault_if (list_any is_no_variable slabs) kind.NoVariable
    ∷ fault_if (list_any is_wrong_type slabs) kind.WrongType
    ∷ fault_if (list_any is_wrong_shape slabs) kind.WrongShape
    ∷ fault_if (list_any is_truncated slabs) (kind.Truncated (length bytes))
    ∷ [])

-- the bytes, where there are some
abbrev pub bytes_read : Result (List ℕ) SlabError → List ℕ
bytes_read (Ok bs) = bs
bytes_read (Err e) = []

-- the time text
abbrev pub times : Asked
times = asked (codes "Times") 2 (19 ∷ [])

abbrev pub time_read : List ℕ → Header → Text
time_read bytes h = bytes_read (slab_read bytes h times)

-- ---- levels

-- the lengths of a level in files
abbrev pub shape_of : Plan → ℕ → ℕ → List ℕ
shape_of plan d f =
    (if (field_of plan f).z then nz plan f ∷ [] else []) ++ (file_y plan d f ∷ file_x plan d f ∷ [])

-- the variable of a level
abbrev pub level_asked : Plan → ℕ → ℕ → ℕ → Asked
level_asked plan d stream f = asked (variable_name plan stream f) 4 (shape_of plan d f)

-- a level that nothing gives
abbrev pub zeros : Plan → ℕ → ℕ → List ℤ
zeros plan d f = replicate (nz plan f * (ny plan d f * nx plan d f)) (pos 0)

-- a level's own points of the numbers in file shape: an extra point in a periodic direction is
-- passed over
abbrev pub own_points : Plan → ℕ → ℕ → List ℤ → List ℤ
own_points plan d f values = listed (nz plan f) (ny plan d f) (nx plan d f)
    (grid_from (file_y plan d f) (file_x plan d f) values)

-- the numbers of a level
abbrev pub level_read : Plan → ℕ → ℕ → List ℕ → Header → ℕ → List ℤ
level_read plan d stream bytes h f =
    own_points plan d f (ints (product (shape_of plan d f))
    (bytes_read (slab_read bytes h (level_asked plan d stream f))))

-- the levels that a file gives, and 0 for the others
abbrev pub grids_read : Plan → ℕ → ℕ → (ℕ → Bool) → List ℕ → Header → List (List ℤ)
grids_read plan d stream gives bytes h =
    map (λ f. if gives f then level_read plan d stream bytes h f else zeros plan d f)
    (levels_of plan)

-- `Times` and the variables of the levels that a file gives
abbrev pub all_slabs : Plan → ℕ → ℕ → (ℕ → Bool) → List ℕ → Header →
    List (Result (List ℕ) SlabError)
all_slabs plan d stream gives bytes h = map (slab_read bytes h)
    (times ∷ map (level_asked plan d stream) (filter gives (levels_of plan)))

-- ---- a domain

-- what a domain begins with
pub record DomainBegin : Type 0 where
  pub begin : Begin
  pub grids : List (List ℤ)

-- the time text of a domain's start
abbrev pub domain_stamp : Plan → ℕ → Text
domain_stamp plan d = time_text plan.start (not_before (domain_of plan d).begins)

-- a domain that doesn't resume
abbrev pub fresh : Plan → ℕ → Begin
fresh plan d = record { steps = 0; start_text = domain_stamp plan d; resumed = false }

abbrev pub with_zeros : Plan → ℕ → DomainBegin
with_zeros plan d = record { begin = fresh plan d; grids = map (zeros plan d) (levels_of plan) }

abbrev pub fault_of : Text → InputKind → InputFault
fault_of file k = record { file = file; kind = k }

abbrev pub header_read : List ℕ → Result Header InputKind
header_read bytes = told_as kind.Cdf (header_at bytes)

-- an input file gives the levels with `i`; its time is the domain's start
abbrev pub is_input : Plan → ℕ → Bool
is_input plan f = (field_of plan f).input

-- an input file: its header, its variables, its time
abbrev pub input_read : Plan → ℕ → List ℕ → Result DomainBegin InputKind
input_read plan d bytes =
    header_read bytes >>= λ h.
    unless_fault (first_fault (
    slabs_fault bytes (all_slabs plan d 0 (is_input plan) bytes h)
    ∷ fault_unless (bytes_eq (time_read bytes h) (domain_stamp plan d)) kind.WrongTime
    ∷ [])) (record { begin = fresh plan d; grids = grids_read plan d 0 (is_input plan) bytes h })

-- the first global attribute of a name
abbrev pub att_named : Header → Text → Att
att_named h name = unwrap_or (find (λ (a : Att). bytes_eq a.name name) h.atts) (text_att [] [])

abbrev pub is_start_date : Att → Bool
is_start_date a = (a.kind == 2) && is_stamp a.bytes

-- one int of at most a thousand million
abbrev pub is_steps : Att → Bool
is_steps a = (a.kind == 4) && (a.count == 1) && nat_le (big_endian 0 a.bytes) 1000000000

-- the attribute of the start
abbrev pub start_date : Header → Att
start_date h = att_named h (codes "START_DATE")

-- the attribute of the steps
abbrev pub steps_att : Header → Att
steps_att h = att_named h (codes "STEPS")

abbrev pub has_attributes : Header → Bool
has_attributes h = is_start_date (start_date h) && is_steps (steps_att h)

-- the start and so many steps lead to the restart's time
abbrev pub leads_to : Plan → ℕ → Header → Bool
leads_to plan d h =
    seconds_before (moment_of (start_date h).bytes) + big_endian 0 (steps_att h).bytes
    * (domain_of plan d).seconds == seconds_before (moment_of plan.start)

-- a restart file gives the levels with `r`
abbrev pub is_restored : Plan → ℕ → Bool
is_restored plan f = (field_of plan f).restart

-- a restart file: its header, its variables, its time, its attributes
abbrev pub restart_read : Plan → ℕ → List ℕ → Result DomainBegin InputKind
restart_read plan d bytes =
    header_read bytes >>= λ h.
    unless_fault (first_fault (
    slabs_fault bytes (all_slabs plan d restart_stream (is_restored plan) bytes h)
    ∷ fault_unless (bytes_eq (time_read bytes h) plan.start) kind.WrongTime
    ∷ fault_if (has_attributes h && not (leads_to plan d h)) kind.WrongTime
    ∷ fault_unless (has_attributes h) kind.WrongAttribute
    ∷ [])) (record {
      begin = record {
        steps = big_endian 0 (steps_att h).bytes;
        start_text = (start_date h).bytes;
        resumed = true;
      };
      grids = grids_read plan d restart_stream (is_restored plan) bytes h;
    })

-- ---- which file a domain begins with

abbrev pub input_file : ℕ → Text
input_file d = codes "wrfinput_d" ++ two_digits d

abbrev pub restart_file : Plan → ℕ → Text
restart_file plan d = file_name restart_stream d plan.start

-- its restart file must be there: of domain 1, and of a nest that starts before the restart's time
abbrev pub must_resume : Plan → ℕ → Bool
must_resume plan d = plan.restart && ((d == 1) || int_lt (domain_of plan d).begins (pos 0))

-- a nest that starts at that time resumes if its file is there
abbrev pub may_resume : Plan → ℕ → Bool
may_resume plan d = plan.restart && ((d == 1) || int_le (domain_of plan d).begins (pos 0))

-- a file that must be there
abbrev pub from_file : (List ℕ → Result DomainBegin InputKind) → Text → Option (List ℕ) →
    Result DomainBegin InputFault
from_file read file None = Err (fault_of file kind.Missing)
from_file read file (Some bytes) = told_as (fault_of file) (read bytes)

-- a domain that starts: from its input, or with 0
abbrev pub started : Files → Plan → ℕ → Result DomainBegin InputFault
started files plan d =
    if (domain_of plan d).from_file
    then from_file (input_read plan d) (input_file d) (files (input_file d))
    else Ok (with_zeros plan d)

-- a domain that resumes where its restart file is there
abbrev pub resumed_if : Files → Plan → ℕ → Option (List ℕ) → Result DomainBegin InputFault
resumed_if files plan d None = if must_resume plan d
    then Err (fault_of (restart_file plan d) kind.Missing) else started files plan d
resumed_if files plan d (Some bytes) =
    told_as (fault_of (restart_file plan d)) (restart_read plan d bytes)

-- what a domain begins with, or the first refusal
abbrev pub domain_begin : Files → Plan → ℕ → Result DomainBegin InputFault
domain_begin files plan d = if may_resume plan d
    then resumed_if files plan d (files (restart_file plan d)) else started files plan d

abbrev pub initial_from : List DomainBegin → Initial
initial_from ds = record { grids = map DomainBegin.grids ds; begins = map DomainBegin.begin ds }

-- file by file, in order of domain
unfoldable pub input_of : Files → Plan → Result Initial InputFault
input_of files plan =
    each (domain_begin files plan) (domains_of plan) >>= λ ds. Ok (initial_from ds)
