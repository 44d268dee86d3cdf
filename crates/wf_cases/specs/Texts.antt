-- The texts that the worked cases share: the base case's namelist, and lines that many cases
-- begin with.
use Rattle.std.specs.Prelude.{ℕ, false, List, [], ◌∷◌, ◌++◌, Option, Some, None, Result, Ok, Err}
use Rattle.std.specs.Prelude.{codes}
use Rattle.wf_model.specs.declared.registry.SourceFile.{SourceFile}
use Rattle.wf_model.specs.declared.table.Names.{Names}
use Rattle.wf_model.specs.declared.table.HookName.{HookName}
use Rattle.wf_model.specs.declared.table.HookKind.TheVariants.{Call, Interp, Average}
use Rattle.wf_model.specs.Files.{Files, with_file}
use Rattle.wf_model.specs.GenCase.{lines}

abbrev pub fault : {A F : Type 0} → Result A F → Option F
fault (Ok a) = None
fault (Err f) = Some f

-- ---- Registries

abbrev pub file : List ℕ → List ℕ → SourceFile
file name text = record { name = name; text = text }

-- one file of these lines
abbrev pub registry : List (List ℕ) → List SourceFile
registry ls = file (codes "Registry") (lines ls) ∷ []

-- these lines behind the dimspecs of x and y
abbrev pub after_dimspecs : List (List ℕ) → List (List ℕ)
after_dimspecs more = codes "dimspec i 1 standard_domain x west_east"
    ∷ codes "dimspec j 3 standard_domain y south_north" ∷ more

-- and behind a field too
abbrev pub after_field : List (List ℕ) → List (List ℕ)
after_field more =
    after_dimspecs (codes "state integer a ij misc 1 - i0rhudf \"A\" \"\" \"\"" ∷ more)

-- ---- names of a table: fields a and b, t with a z letter, c with two levels

abbrev pub table_names : Names
table_names = record {
  levels = (codes "a", false) ∷ (codes "b", false) ∷ (codes "c_1", false)
      ∷ (codes "c_2", false) ∷ [];
  fields = (codes "a", 0, 0) ∷ (codes "b", 1, 1) ∷ (codes "c", 2, 3) ∷ [];
  halos = (codes "h24", record { field = 0; cross = false; radius = 2 } ∷ []) ∷ [];
  periods = [];
  hooks = record { name = codes "relax"; id = 1; kind = Call; arity = 3 } ∷ [];
}

-- the shipped functions
abbrev pub shipped_names : List HookName
shipped_names =
    record { name = codes "limit"; id = 0; kind = Call; arity = 3 }
    ∷ record { name = codes "relax"; id = 1; kind = Call; arity = 3 }
    ∷ record { name = codes "bilin"; id = 2; kind = Interp; arity = 7 }
    ∷ record { name = codes "nearest"; id = 3; kind = Interp; arity = 7 }
    ∷ record { name = codes "mean"; id = 4; kind = Average; arity = 5 } ∷ []

-- ---- namelists

-- the base case's namelist with another first line of `&domains`, the sixth, and another second,
-- the seventh
abbrev pub namelist_with : List ℕ → List ℕ → List ℕ
namelist_with sixth seventh = lines (
    codes "&time_control" ∷
    codes " run_minutes = 1, start_year = 2000, start_month = 1, start_day = 1," ∷
    codes " history_interval = 1, frames_per_outfile = 10," ∷
    codes "/" ∷
    codes "&domains" ∷
    sixth ∷
    seventh ∷
    codes "/" ∷
    codes "&bdy_control" ∷
    codes " spec_bdy_width = 1, periodic_x = .false.," ∷
    codes "/" ∷ [])

abbrev pub steps_and_patches : List ℕ
steps_and_patches = codes " time_step = 60, max_dom = 1, nproc_x = 1, nproc_y = 1, numtiles = 1,"

abbrev pub sizes : List ℕ
sizes = codes " e_we = 4, e_sn = 4, e_vert = 2,"

abbrev pub base_namelist : List ℕ
base_namelist = namelist_with steps_and_patches sizes

-- two domains, of which the second has parent 1; `start` is its first parent point in x, and
-- `sizes` the rest
abbrev pub nest_namelist : List ℕ → List ℕ → List ℕ
nest_namelist start sizes = lines (
    codes "&time_control" ∷
    codes " run_minutes = 10, start_year = 2000, start_month = 1, start_day = 1," ∷
    codes " history_interval = 1, 1, frames_per_outfile = 10, 10," ∷
    codes "/" ∷
    codes "&domains" ∷
    codes " time_step = 60, max_dom = 2, nproc_x = 1, nproc_y = 1, numtiles = 1," ∷
    (codes " parent_id = 0, 1, i_parent_start = 1, " ++ start ++ codes ", j_parent_start = 1, 3,") ∷
    (codes " parent_time_step_ratio = 1, 3, feedback = 0, e_vert = 2, 2, " ++ sizes) ∷
    codes "/" ∷ [])

-- ---- stores

abbrev pub no_files : Files
no_files name = None

-- a store of the three texts
abbrev pub texts : List ℕ → List ℕ → List ℕ → Files
texts registry_text namelist_text table_text =
    with_file (with_file (with_file no_files (codes "Registry") registry_text)
    (codes "namelist.input") namelist_text) (codes "stencil.table") table_text
