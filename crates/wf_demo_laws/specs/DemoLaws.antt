-- What the laws of the built-in case say: its short definitions are the general ones of its plan.
use Rattle.std.specs.Prelude.{◌≡◌, ℕ, ◌+◌, ◌*◌, ◌<◌, ◌≤◌, List, [], ◌∷◌, flat_map, length, pos}
use Rattle.std.specs.Prelude.{Option, Some, None, Result, Ok, Err, codes}
use Rattle.std.specs.List.{range_with_len}
use Rattle.wf_model.specs.declared.demo.Demo.{Demo}
use Rattle.wf_model.specs.declared.table.HookName.{HookName}
use Rattle.wf_model.specs.declared.script.Act.TheVariants.{Table, Emit}
use Rattle.wf_model.specs.declared.script.Entry.{Entry}
use Rattle.wf_model.specs.Value.{Answers}
use Rattle.wf_model.specs.Script.{entry}
use Rattle.wf_model.specs.Outcome.{RunData, script, grids_at, outcome_of}
use Rattle.wf_model.specs.Writes.{writes_of, summary_of}
use Rattle.wf_model.specs.Files.{Files}
use Rattle.wf_model.specs.Lockstep.{memory_report}
use Rattle.wf_model.specs.Ranges.{IsRangedLayout}
use Rattle.wf_model.specs.Sound.{IsRangedPlan, FilesFit, IsFittingInitial, HasHooks}
use Rattle.wf_model.specs.Agreement.{IsAccepted}
use Rattle.wf_model.specs.Answer.{Outside, Command, demo, command_answer, answer_of}
use Rattle.wf_model.specs.Letters.{Text}
use Rattle.wf_model.specs.Refusals.{Refusal, refusal}
use Rattle.wf_model.specs.DemoCase.{demo_plan, demo_initial, columns_layout}
use Rattle.wf_model.specs.Demo.{demo_value, demo_calls, demo_summary, demo_memories, demo_answer}
use Rattle.wf_model.specs.Demo.{demo_of, tool_answer}

-- the run of the demo's plan, by its points in x and y and its steps
abbrev pub demo_run : ℕ → ℕ → ℕ → Answers → RunData
demo_run nx ny steps m =
    record { plan = demo_plan nx ny steps; initial = demo_initial nx ny; answers = m }

-- the frame after n steps of 60 seconds
abbrev pub frame_entry : ℕ → Entry
frame_entry n = entry 1 n (60 * n) (Emit 0)

-- the items of the step after n steps: halo, phase and frame
abbrev pub step_entries : ℕ → List Entry
step_entries n = entry 1 (n + 1) (60 * n) (Table 0) ∷ entry 1 (n + 1) (60 * n) (Table 1)
    ∷ frame_entry (n + 1) ∷ []

-- all items
abbrev pub demo_script : ℕ → List Entry
demo_script steps = frame_entry 0 ∷ flat_map step_entries (range_with_len 0 steps)

abbrev pub DemoScriptIsItsSteps : Type 0
DemoScriptIsItsSteps =
    (nx ny steps : ℕ) (m : Answers) → script (demo_run nx ny steps m) ≡ demo_script steps

-- values stay from 0 to 99
abbrev pub DemoValuesStayBelowHundred : Type 0
DemoValuesStayBelowHundred = (nx ny n j i : ℕ) → demo_value nx ny n j i < 100

-- nothing overflows
abbrev pub DemoGoesThrough : Type 0
DemoGoesThrough = (nx ny steps : ℕ) (m : Answers) →
    outcome_of (demo_run nx ny steps m)
    ≡ Ok (grids_at (demo_run nx ny steps m) (length (script (demo_run nx ny steps m))))

-- domain 1's grid after n steps, before the frame that follows them and after it
abbrev pub DemoGridIsItsOutcome : Type 0
DemoGridIsItsOutcome =
    (nx ny steps : ℕ) (m : Answers) (n j i : ℕ) → n ≤ steps → 1 ≤ j → j ≤ ny → 1 ≤ i → i ≤ nx →
    (grids_at (demo_run nx ny steps m) (3 * n) 1 0 1 j i ≡ pos (demo_value nx ny n j i))
    × (grids_at (demo_run nx ny steps m) (3 * n + 1) 1 0 1 j i ≡ pos (demo_value nx ny n j i))

-- as long as one file takes all frames
abbrev pub DemoCallsAreItsWrites : Type 0
DemoCallsAreItsWrites = (d : Demo) (m : Answers) → d.steps < 1000 →
    writes_of (demo_run d.nx d.ny d.steps m) ≡ demo_calls d

abbrev pub DemoSummaryIsItsRuns : Type 0
DemoSummaryIsItsRuns = (d : Demo) (m : Answers) → d.steps < 1000 →
    summary_of (demo_run d.nx d.ny d.steps m) ≡ demo_summary d

-- the plan and its layouts by columns are sound, and the halo check accepts the plan
abbrev pub DemoIsAccepted : Type 0
DemoIsAccepted = (nx ny steps px : ℕ) (m : Answers) → 1 ≤ ny → 1 ≤ px → px ≤ nx →
    IsAccepted (demo_run nx ny steps m) (columns_layout px)

-- the plan, the layout, the files and what the run begins with keep their ranges, and no stored
-- function is used
pub record IsInRange (nx ny steps px : ℕ) : Type 0 where
  pub plan : IsRangedPlan (demo_plan nx ny steps)
  pub files : FilesFit (demo_plan nx ny steps)
  pub initial : IsFittingInitial (demo_plan nx ny steps) (demo_initial nx ny)
  pub hooks : (hooks : List HookName) → HasHooks hooks (demo_plan nx ny steps)
  pub layout : IsRangedLayout (columns_layout px)

abbrev pub DemoIsInRange : Type 0
DemoIsInRange = (nx ny steps px : ℕ) → 1 ≤ nx → nx ≤ 200 → 1 ≤ ny → ny ≤ 200 → steps ≤ 100000 →
    1 ≤ px → px ≤ 256 → IsInRange nx ny steps px

-- with a patch for each column at most
abbrev pub DemoMemoriesAreItsReport : Type 0
DemoMemoriesAreItsReport =
    (d : Demo) (m : Answers) → 1 ≤ d.ny → 1 ≤ d.px → d.px ≤ d.nx →
    memory_report (demo_run d.nx d.ny d.steps m) (columns_layout d.px) ≡ demo_memories d

-- with a row and a patch
abbrev pub DemoAnswerIsItsCommands : Type 0
DemoAnswerIsItsCommands =
    (outside : Outside) (files : Files) (d : Demo) → 1 ≤ d.ny → 1 ≤ d.px → d.steps < 1000 →
    command_answer outside files (demo d.nx d.ny d.steps d.px d.each) ≡ demo_answer d

-- how words are read where the demo is the only command
abbrev pub asked_command : Option Demo → Result Command Refusal
asked_command None = Err (refusal 1 (codes "usage: wrftool COMMAND [WORDS]" ∷ []))
asked_command (Some d) = Ok (demo d.nx d.ny d.steps d.px d.each)

-- any words that are read so are answered as the short definitions say
abbrev pub WordsAreAnsweredByTheDemo : Type 0
WordsAreAnsweredByTheDemo =
    (outside : Outside) (files : Files) (words : List Text) → outside.command words
    ≡ asked_command (demo_of words) → answer_of outside words files ≡ tool_answer words
