-- Worked cases from the texts of a run to its refusal, or to what `check` prints.
use Rattle.std.specs.Prelude.{ℕ, ◌≡◌, false, List, [], ◌∷◌, ◌++◌, Option, Some, None, Result, Ok}
use Rattle.std.specs.Prelude.{Err, pos, codes, decimal}
use Rattle.wf_model.specs.Refusals.{Refusal, refusal, line, plan_refusal}
use Rattle.wf_model.specs.declared.config.Config.{Config}
use Rattle.wf_model.specs.Reading.{◌>>=◌, told_as, first_fault, unless_fault}
use Rattle.wf_model.specs.PlanTests.{sound_faults}
use Rattle.wf_model.specs.PlanOf.{plan_from}
use Rattle.wf_model.specs.FilesRead.{Planned, config_read, plan_read}
use Rattle.wf_model.specs.Answer.{Outside, check, demo, command_answer}
use Rattle.wf_model.specs.Files.{Files}
use Rattle.wf_model.specs.Plans.{domain_of}
use Rattle.wf_model.specs.GenCase.{lines, case_registry}
use Rattle.wf_cases.specs.Texts.{fault, shipped_names, no_files, texts, namelist_with}
use Rattle.wf_cases.specs.Texts.{base_namelist, steps_and_patches, sizes, nest_namelist}

-- why there is no plan of the base Registry, of this namelist and of an empty table
abbrev pub refusal_of : Files → Option Refusal
refusal_of files = fault (plan_read shipped_names files [])

abbrev pub with_namelist : List ℕ → Option Refusal
with_namelist namelist = refusal_of (texts case_registry namelist [])

abbrev pub config_refused : List ℕ → List ℕ → Option Refusal
config_refused name kind = Some (refusal 3 (codes "config" ∷ name ∷ kind ∷ []))

pub record MissingTexts : Type 0 where
  pub empty_store : refusal_of no_files ≡ Some (refusal 2
      (codes "registry" ∷ codes "Registry" ∷ decimal 0 ∷ codes "MissingFile" ∷ []))
  -- an include that no store can have counts as not there
  pub odd_include : refusal_of (texts (codes "include a/b") [] []) ≡ Some (refusal 2
      (codes "registry" ∷ codes "Registry" ∷ decimal 1 ∷ codes "MissingInclude" ∷ []))

pub record NamelistRefusals : Type 0 where
  pub null_value : with_namelist (namelist_with steps_and_patches (codes " e_we = 4,,4"))
      ≡ Some (refusal 3 (codes "namelist" ∷ decimal 7 ∷ codes "NullValue" ∷ []))
  pub unknown_item : with_namelist (namelist_with steps_and_patches (codes " nosuch = 1"))
      ≡ config_refused (codes "nosuch") (codes "UnknownItem")
  -- a known name in another group is unknown there
  pub other_group : with_namelist (namelist_with steps_and_patches (codes " run_days = 1"))
      ≡ config_refused (codes "run_days") (codes "UnknownItem")
  pub nine_domains : with_namelist (namelist_with (codes " max_dom = 9") sizes)
      ≡ config_refused (codes "max_dom") (codes "OutOfRange")
  pub wrong_type : with_namelist (namelist_with steps_and_patches (codes " e_we = 4."))
      ≡ config_refused (codes "e_we") (codes "WrongType")
  pub too_many : with_namelist (namelist_with (codes " time_step = 60, 20") sizes)
      ≡ config_refused (codes "time_step") (codes "TooMany")
  -- time_step has no default that is allowed
  pub no_step : with_namelist (namelist_with [] sizes)
      ≡ config_refused (codes "time_step") (codes "OutOfRange")

-- the config of the base Registry and this namelist
abbrev pub config_with : List ℕ → Result Config Refusal
config_with namelist = config_read (texts case_registry namelist []) []

-- why there would be no plan of them and of an empty table if all were built
abbrev pub if_built : List ℕ → Option Refusal
if_built namelist = fault (config_with namelist >>= λ config. told_as plan_refusal (unless_fault
    (first_fault (sound_faults config shipped_names (plan_from config shipped_names []))) config))

pub record NestRefusals : Type 0 where
  -- nests aren't built, and this is told before any of their faults
  pub not_built : with_namelist
      (nest_namelist (codes "1") (codes "parent_grid_ratio = 1, 3, e_we = 9, 10, e_sn = 9, 10"))
      ≡ Some (refusal 4 (codes "plan" ∷ codes "NotBuilt" ∷ codes "max_dom" ∷ []))
  pub even_ratio : if_built
      (nest_namelist (codes "3") (codes "parent_grid_ratio = 1, 2, e_we = 9, 9, e_sn = 9, 9"))
      ≡ Some (refusal 4 (codes "plan" ∷ codes "BadRatio" ∷ decimal 2 ∷ []))
  pub at_the_edge : if_built
      (nest_namelist (codes "1") (codes "parent_grid_ratio = 1, 3, e_we = 9, 10, e_sn = 9, 10"))
      ≡ Some (refusal 4 (codes "plan" ∷ codes "NestAtEdge" ∷ decimal 2 ∷ []))
  pub no_multiple : if_built
      (nest_namelist (codes "3") (codes "parent_grid_ratio = 1, 3, e_we = 9, 9, e_sn = 9, 10"))
      ≡ Some (refusal 4 (codes "plan" ∷ codes "NestSize" ∷ decimal 2 ∷ []))

-- ---- what is accepted

-- points in x and y, the step, and the number of steps
pub record Seen : Type 0 where
  pub ide : ℕ
  pub jde : ℕ
  pub seconds : ℕ
  pub steps : ℕ

abbrev pub seen : Result Planned Refusal → Option Seen
seen (Err f) = None
seen (Ok p) = Some (record {
  ide = (domain_of p.1 1).ide;
  jde = (domain_of p.1 1).jde;
  seconds = (domain_of p.1 1).seconds;
  steps = p.1.steps;
})

-- values of domains that aren't there, comments, a trailing comma, names without effect and groups
-- that nothing declares
abbrev pub lenient : List ℕ
lenient = lines (
    codes "&time_control" ∷
    codes " run_minutes = 1, frames_per_outfile = 10, io_form_history = 2" ∷ codes "/" ∷
    codes "&domains" ∷ codes " time_step = 60, e_we = 2*4, ! west-east" ∷
    codes " e_sn = 4, dx = 30000., e_vert = 2," ∷ codes "/" ∷
    codes "&physics mp_physics = 3 /" ∷ [])

-- a real field, and a package that lists it and holds where mp is 1
abbrev pub rain : List ℕ
rain = lines (codes "state real rain ij misc 1 - rh \"RAIN\"" ∷ [])

abbrev pub listing : List ℕ
listing = lines (codes "rconfig integer mp namelist,physics 1 0"
    ∷ codes "package pk mp==1 - state:rain" ∷ [])

-- the lenient namelist with mp
abbrev pub with_mp : List ℕ → List ℕ
with_mp value = namelist_with steps_and_patches sizes
    ++ lines ((codes "&physics mp = " ++ value ++ codes " /") ∷ [])

pub record LenientNamelist : Type 0 where
  pub accepted : seen (plan_read shipped_names (texts case_registry lenient []) [])
      ≡ Some (record { ide = 4; jde = 4; seconds = 60; steps = 1 })
  -- once the Registry knows the group, another name in it is refused
  pub known_group : refusal_of (texts (case_registry ++ listing ++ rain) lenient [])
      ≡ config_refused (codes "mp_physics") (codes "UnknownItem")

pub record InactiveRealState : Type 0 where
  pub active : refusal_of (texts (case_registry ++ rain) base_namelist [])
      ≡ config_refused (codes "rain") (codes "FloatState")
  pub package_holds : refusal_of (texts (case_registry ++ listing ++ rain) (with_mp (codes "1")) [])
      ≡ config_refused (codes "rain") (codes "FloatState")
  pub package_does_not_hold : seen (plan_read shipped_names
      (texts (case_registry ++ listing ++ rain) (with_mp (codes "2")) []) [])
      ≡ Some (record { ide = 4; jde = 4; seconds = 60; steps = 1 })

-- ---- commands; the words are read elsewhere

abbrev pub outside : Outside
outside = record {
  command = λ words. Err (refusal 1 (codes "usage:" ∷ []));
  hooks = shipped_names;
  answers = λ id xs. pos 0;
}

pub record Commands : Type 0 where
  pub base_accepted : command_answer outside
      (texts case_registry base_namelist (lines (codes "halo h24" ∷ []))) (check [])
      ≡ record {
        status = 0;
        text = lines (codes "field a" ∷ codes "field b" ∷ codes "accepted" ∷ []);
        calls = [];
      }
  pub demo_too_many_patches : command_answer outside no_files (demo 3 3 1 4 false)
      ≡ record {
        status = 7;
        text = line (codes "layout" ∷ codes "TooManyPatches" ∷ decimal 1 ∷ decimal 4 ∷ []);
        calls = [];
      }
