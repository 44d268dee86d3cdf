-- A case is what its texts give, since the restart rule refuses no plan that is accepted.
use Rattle.std.proofs.Common.{◌≡◌, ◌∙◌, ℕ, Bool, true, false, ◌&&◌, ◌||◌, not, List, [], ◌∷◌, Option, None, Result, Ok, Err, refl, ap, codes}
use Rattle.std.specs.Prelude.{IsFalse, find, nat_lt, option_map}
use Rattle.wf_model.specs.declared.registry.Registry.{Registry}
use Rattle.wf_model.specs.declared.namelist.Namelist.{Namelist}
use Rattle.wf_model.specs.declared.config.Config.{Config}
use Rattle.wf_model.specs.declared.plan.Item.{Item}
use Rattle.wf_model.specs.declared.plan.Plan.{Plan}
use Rattle.wf_model.specs.declared.table.HookName.{HookName}
use Rattle.wf_model.specs.Reading.{◌>>=◌, told_as, unless_fault}
use Rattle.wf_model.specs.KeptLines.{Defines}
use Rattle.wf_model.specs.Config.{config_of}
use Rattle.wf_model.specs.Files.{Files}
use Rattle.wf_model.specs.Live.{is_live}
use Rattle.wf_model.specs.Plans.{field_of, levels_of}
use Rattle.wf_model.specs.PlanOf.{plan_of}
use Rattle.wf_model.specs.Refusals.{Refusal, config_refusal, plan_refusal, restart_refusal}
use Rattle.wf_model.specs.FilesRead.{Planned, registry_read, namelist_text, table_text, config_read, plan_made, plan_read}
use Rattle.wf_model.specs.Uncovered.{uses_restart, first_lost}
use Rattle.wf_model.proofs.ReadingLemmas.{ok_is}
use Rattle.wf_setup.specs.declared.cases.Case.{Case}
use Rattle.wf_setup.specs.Cases.{case_read}
use Rattle.wf_setup.specs.CaseLaws.{CaseIsPlanRead, RefusalIsPlanRead, CasesArePlansRead}
use Rattle.wf_setup.proofs.NoRestart.{UsesNoRestart, no_restart}

-- ---- chains that gave a value

pub record WasRead {A B F : Type 0} (read : Result A F) (next : A → Result B F) (b : B) : Type 0 where
  pub value : A
  pub here : read ≡ Ok value
  pub next_gives : next value ≡ Ok b

pub was_read : {A B F : Type 0} (read : Result A F) (next : A → Result B F) (b : B) → (read >>= next) ≡ Ok b → WasRead read next b
was_read (Ok a) next b e = record { value = a; here = refl; next_gives = e }
was_read (Err f) next b e = absurd (cc e)

pub was_told : {A F G : Type 0} (tell : F → G) (read : Result A F) (a : A) → told_as tell read ≡ Ok a → read ≡ Ok a
was_told tell (Ok b) a e = ap (λ (x : _). Ok x) (ok_is b a e)
was_told tell (Err f) a e = absurd (cc e)

-- ---- the restart rule

nothing_found : {A : Type 0} (uses : Bool) (test : A → Bool) (xs : List A) → uses ≡ false → find (λ x. uses && test x) xs ≡ None
nothing_found true test xs e = absurd (cc e)
nothing_found false test [] e = refl
nothing_found false test (x ∷ xs) e = nothing_found false test xs refl

unused : (restart : Bool) (steps : ℕ) → IsFalse restart → steps ≡ 0 → (restart || nat_lt 0 steps) ≡ false
unused true steps none e = absurd (cc none)
unused false steps none e = ap (nat_lt 0) e

-- without restart no level is lost
pub none_lost : (plan : Plan) → UsesNoRestart plan → first_lost plan ≡ None
unfolding first_lost
none_lost plan none =
    nothing_found (uses_restart plan) (λ f. is_live plan f && not (field_of plan f).restart) (levels_of plan) (unused plan.restart plan.restart_steps none.restart none.files)

-- what the rule leaves of a plan
abbrev checked : Config → Plan → Result Planned Refusal
checked config plan = unless_fault (option_map (restart_refusal plan) (first_lost plan)) (config, plan)

passes : (config : Config) (plan : Plan) → UsesNoRestart plan → checked config plan ≡ Ok (config, plan)
passes config plan none = ap (λ (f : Option ℕ). unless_fault (option_map (restart_refusal plan) f) (config, plan)) (none_lost plan none)

-- ---- the config and the plan of files

config_bound : (files : Files) (defines : Defines) (config : Config) → config_read files defines ≡ Ok config
    → (registry : Registry) × ((namelist : Namelist) × (config_of registry namelist ≡ Ok config))
unfolding config_read
config_bound files defines config e =
    let bind : Registry → Namelist → Result Config Refusal = λ registry namelist. told_as config_refusal (config_of registry namelist) in
    let one = was_read (registry_read files defines) (λ registry. namelist_text (files (codes "namelist.input")) >>= bind registry) config e in
    let two = was_read (namelist_text (files (codes "namelist.input"))) (bind one.value) config one.next_gives in
    (one.value, (two.value, was_told config_refusal (config_of one.value two.value) config two.next_gives))

plan_given : (hooks : List HookName) (files : Files) (config : Config) (plan : Plan) → plan_made hooks files config ≡ Ok plan → (items : List Item) × (plan_of config hooks items ≡ Ok plan)
unfolding plan_made
plan_given hooks files config plan e =
    let one = was_read (table_text config hooks (files (codes "stencil.table"))) (λ items. told_as plan_refusal (plan_of config hooks items)) plan e in
    (one.value, was_told plan_refusal (plan_of config hooks one.value) plan one.next_gives)

files_pass : (hooks : List HookName) (files : Files) (defines : Defines) (config : Config) (plan : Plan) → config_read files defines ≡ Ok config → plan_made hooks files config ≡ Ok plan
    → checked config plan ≡ Ok (config, plan)
files_pass hooks files defines config plan here made =
    let bound = config_bound files defines config here in
    let given = plan_given hooks files config plan made in
    passes config plan (no_restart bound.0 bound.1.0 config hooks given.0 plan bound.1.1 given.1)

-- ---- the law

-- the case of a config and a plan
abbrev as_case : Config → Plan → Result Case Refusal
as_case config plan = Ok (record { config = config; plan = plan })

module _ (check : Config → Plan → Result Planned Refusal) where
  plan_same : (config : Config) (read : Result Plan Refusal) (c : Case) → ((plan : Plan) → read ≡ Ok plan → check config plan ≡ Ok (config, plan))
      → (read >>= as_case config) ≡ Ok c → (read >>= check config) ≡ Ok (c.config, c.plan)
  plan_same config (Ok plan) c passes e =
      passes plan refl ∙ ap (λ (x : Case). let r : Result Planned Refusal = Ok (x.config, x.plan) in r) (ok_is (record { config = config; plan = plan }) c e)
  plan_same config (Err x) c passes e = absurd (cc e)

  case_same : (read : Result Config Refusal) (next : Config → Result Plan Refusal) (c : Case)
      → ((config : Config) (plan : Plan) → read ≡ Ok config → next config ≡ Ok plan → check config plan ≡ Ok (config, plan))
      → (read >>= λ config. next config >>= as_case config) ≡ Ok c → (read >>= λ config. next config >>= check config) ≡ Ok (c.config, c.plan)
  case_same (Ok config) next c passes e = plan_same config (next config) c (λ plan is. passes config plan refl is) e
  case_same (Err x) next c passes e = absurd (cc e)

  plan_refused : (config : Config) (read : Result Plan Refusal) (x : Refusal) → (read >>= as_case config) ≡ Err x → (read >>= check config) ≡ Err x
  plan_refused config (Ok plan) x e = absurd (cc e)
  plan_refused config (Err y) x e = let same : y ≡ x = cc e in ap (λ (z : Refusal). let r : Result Planned Refusal = Err z in r) same

  case_refused : (read : Result Config Refusal) (next : Config → Result Plan Refusal) (x : Refusal)
      → (read >>= λ config. next config >>= as_case config) ≡ Err x → (read >>= λ config. next config >>= check config) ≡ Err x
  case_refused (Ok config) next x e = plan_refused config (next config) x e
  case_refused (Err y) next x e = let same : y ≡ x = cc e in ap (λ (z : Refusal). let r : Result Planned Refusal = Err z in r) same

given_same : (hooks : List HookName) (files : Files) (defines : Defines) → CaseIsPlanRead hooks files defines
unfolding case_read plan_read
given_same hooks files defines c e = case_same checked (config_read files defines) (plan_made hooks files) c (files_pass hooks files defines) e

refused_same : (hooks : List HookName) (files : Files) (defines : Defines) → RefusalIsPlanRead hooks files defines
unfolding case_read plan_read
refused_same hooks files defines x e = case_refused checked (config_read files defines) (plan_made hooks files) x e

pub cases_are_plans_read : CasesArePlansRead
cases_are_plans_read hooks files defines = (given_same hooks files defines, refused_same hooks files defines)
