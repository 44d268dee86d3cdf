-- What `plain` answers, and how it ends.
use Rattle.std.specs.Prelude.{◌≡◌, ◌⊎◌, ℕ, List, [], ◌++◌, Option, Some, Result, Ok, Err}
use Rattle.wf_model.specs.declared.plan.Plan.{Plan}
use Rattle.wf_model.specs.declared.initial.Initial.{Initial}
use Rattle.wf_model.specs.declared.table.HookName.{HookName}
use Rattle.wf_model.specs.Reading.{◌>>=◌}
use Rattle.wf_model.specs.Letters.{Text}
use Rattle.wf_model.specs.KeptLines.{Defines}
use Rattle.wf_model.specs.Files.{Files}
use Rattle.wf_model.specs.Refusals.{Refusal}
use Rattle.wf_model.specs.FilesRead.{Planned, plan_read, inputs_read}
use Rattle.wf_model.specs.Value.{Answers}
use Rattle.wf_model.specs.Outcome.{RunData}
use Rattle.wf_model.specs.Patches.{whole_domain}
use Rattle.wf_model.specs.Answer.{Answer, Outside, after, command_answer, plain, run_answer, run_of}
use Rattle.wf_model.specs.Answer.{unsaid}
use Rattle.wf_model.specs.Demo.{usage}
use Rattle.wf_stream.specs.Inputs.{input_names}
use Rattle.wf_setup.specs.Asked.{case_names}
use Rattle.wf_top.specs.Ends.{CallsEnded, ReadFailed}

-- ---- the answer

-- these functions are stored, and answer so. How the words are read is not looked at
abbrev pub storing : List HookName → Answers → Outside
storing hooks answers = record {
  command = λ words. Err (record { status = usage.status; line = usage.text });
  hooks = hooks;
  answers = answers;
}

-- what `plain` answers with these files
abbrev pub plain_answer : Outside → Files → Defines → Answer
plain_answer outside files defines = command_answer outside files (plain defines)

-- the run of a plan and of what it begins with
abbrev pub run_from : Outside → Plan → Initial → RunData
run_from outside plan initial = run_of outside plan initial

-- the run that the files ask for, or the first refusal
unfoldable pub run_read : Outside → Files → Defines → Result RunData Refusal
run_read outside files defines = plan_read outside.hooks files defines >>= λ read.
    inputs_read files read.1 >>= λ initial. Ok (run_from outside read.1 initial)

-- the answer to a run on whole domains
abbrev pub whole_answer : RunData → Answer
whole_answer r = run_answer r whole_domain unsaid

-- the answer to what was read
abbrev pub answer_to : Result RunData Refusal → Answer
answer_to read = after read whole_answer

-- ---- the files that are asked for

-- the input files, unless something was refused
abbrev pub inputs_asked : Result Planned Refusal → List Text
inputs_asked (Ok read) = input_names read.1
inputs_asked (Err x) = []

unfoldable pub plain_names : Outside → Files → Defines → List Text
plain_names outside files defines =
    case_names files defines ++ inputs_asked (plan_read outside.hooks files defines)

-- ---- how it ends. `Says status text` is `Said` of the sink and the status that came out

-- with files that the store tells it is their answer, and else that of some reading
pub record IsPlainAnswer (outside : Outside) (defines : Defines) (old : Option Files)
    (answer : Answer) : Type 0 where
  pub read : Result RunData Refusal
  pub of_read : answer ≡ answer_to read
  pub told : (m : Files) → old ≡ Some m → answer ≡ plain_answer outside m defines

-- all was read, or refused, or memory was wanting: the answer was given, or a first part of its
-- calls was made
pub record PlainAnswered (outside : Outside) (defines : Defines) (old new : Option Files)
    (before after : ℕ) (failed : List ℕ) (Says : ℕ → List ℕ → Type 0) : Type 0 where
  pub answer : Answer
  pub is : IsPlainAnswer outside defines old answer
  pub ended : CallsEnded answer old new before after failed Says

abbrev pub PlainEnded : Outside → Defines → Option Files → Option Files → ℕ → ℕ → List ℕ →
    (ℕ → List ℕ → Type 0) → Type 0
PlainEnded outside defines old new before after failed Says =
    PlainAnswered outside defines old new before after failed Says
    ⊎ ReadFailed (λ m. plain_names outside m defines) old new before after failed Says
