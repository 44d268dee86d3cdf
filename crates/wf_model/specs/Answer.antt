-- What a command answers: its status, what it prints, and its calls on the store.
use Rattle.std.specs.Prelude.{ℕ, Bool, List, [], ◌∷◌, ◌++◌, flat_map, fold, sum_by, pos, ◌+ℤ◌}
use Rattle.std.specs.Prelude.{if◌then◌else◌, Result, Ok, Err, codes, decimal}
use Rattle.wf_model.specs.declared.plan.Plan.{Plan}
use Rattle.wf_model.specs.declared.plan.Field.{Field}
use Rattle.wf_model.specs.declared.plan.Item.{Item}
use Rattle.wf_model.specs.declared.plan.Item.TheVariants as item
use Rattle.wf_model.specs.declared.layout.Layout.{Layout}
use Rattle.wf_model.specs.declared.initial.Initial.{Initial}
use Rattle.wf_model.specs.declared.point.Point.{Point}
use Rattle.wf_model.specs.declared.point.What.{What}
use Rattle.wf_model.specs.declared.point.What.TheVariants as what
use Rattle.wf_model.specs.Grids.{Grids}
use Rattle.wf_model.specs.Value.{Answers}
use Rattle.wf_model.specs.Plans.{field_of, item_of}
use Rattle.wf_model.specs.Outcome.{RunData, Overflow, outcome_of}
use Rattle.wf_model.specs.Files.{StoreCall, Files, files_after_all}
use Rattle.wf_model.specs.Writes.{writes_of, Summary, summary_of}
use Rattle.wf_model.specs.Patches.{whole_domain}
use Rattle.wf_model.specs.Lockstep.{MemoryLine, memory_report}
use Rattle.wf_model.specs.declared.table.HookName.{HookName}
use Rattle.wf_model.specs.Reading.{told_as}
use Rattle.wf_model.specs.KeptLines.{Defines}
use Rattle.wf_model.specs.Refusals.{Refusal, line, whole, layout_refusal}
use Rattle.wf_model.specs.FilesRead.{plan_read, layout_read, inputs_read}
use Rattle.wf_model.specs.DemoCase.{demo_plan, demo_initial, demo_layout}
use Rattle.wf_model.specs.GenCase.{gen_calls}

-- status, printed text, and the calls that write
pub record Answer : Type 0 where
  pub status : ℕ
  pub text : List ℕ
  pub calls : List StoreCall

-- ---- lines

abbrev pub summary_line : Summary → List ℕ
summary_line s = line (codes "files" ∷ decimal s.files ∷ codes "records" ∷ decimal s.records
    ∷ codes "bytes" ∷ decimal s.bytes ∷ codes "sum" ∷ decimal s.sum ∷ [])

abbrev pub patch_line : MemoryLine → List ℕ
patch_line m =
    line (codes "memory" ∷ decimal m.domain ∷ decimal m.patch ∷ decimal m.cells ∷ whole m.sum ∷ [])

abbrev pub total_line : List MemoryLine → List ℕ
total_line ms = line (codes "memory" ∷ decimal (sum_by (λ m. m.cells) ms)
    ∷ whole (fold (λ a m. a +ℤ m.sum) (pos 0) ms) ∷ [])

abbrev pub phase_name : Item → List ℕ
phase_name (item.Halo parts) = []
phase_name (item.Period parts) = []
phase_name (item.Swap one two) = []
phase_name (item.Phase ph) = ph.name

abbrev pub what_name : Plan → What → List ℕ
what_name plan (what.Phase n) = phase_name (item_of plan n)
what_name plan what.Start = codes "start"
what_name plan what.Force = codes "force"
what_name plan what.Feedback = codes "feedback"

abbrev pub overflow_line : Plan → Point → List ℕ
overflow_line plan p =
    line (codes "overflow" ∷ decimal p.domain ∷ decimal p.step ∷ what_name plan p.what
    ∷ (field_of plan p.field).name
    ∷ decimal p.k ∷ decimal p.j ∷ decimal p.i ∷ [])

-- ---- a run that was read

-- how the memories are printed
pub data Memories : Type 0 where
  unsaid : Memories
  in_total : Memories
  by_patch : Memories

-- the memories as they are asked for
abbrev pub memory_text : Memories → List MemoryLine → List ℕ
memory_text unsaid ms = []
memory_text in_total ms = total_line ms
memory_text by_patch ms = flat_map patch_line ms

-- a run that ends, or one that overflows
abbrev pub ended_as : RunData → Layout → Memories → Result Grids Overflow → Answer
ended_as r layout shown (Ok g) = record {
  status = 0;
  text = summary_line (summary_of r) ++ memory_text shown (memory_report r layout);
  calls = writes_of r;
}
ended_as r layout shown (Err o) =
    record { status = 8; text = overflow_line r.plan o.point; calls = writes_of r }

unfoldable pub run_answer : RunData → Layout → Memories → Answer
run_answer r layout shown = ended_as r layout shown (outcome_of r)

-- ---- the chain of tests: the first refusal is the answer

-- a refusal has no calls
abbrev pub refused : Refusal → Answer
refused x = record { status = x.status; text = x.line; calls = [] }

-- what follows, unless there is a refusal
abbrev pub after : {A : Type 0} → Result A Refusal → (A → Answer) → Answer
after (Ok a) next = next a
after (Err x) next = refused x

-- what the words ask for
pub data Command : Type 0 where
  demo : ℕ → ℕ → ℕ → ℕ → Bool → Command
  serial : List (List ℕ × List ℕ) → Bool → Command
  plain : List (List ℕ × List ℕ) → Command
  check : List (List ℕ × List ℕ) → Command
  gen : ℕ → Command
  threads : ℕ → List (List ℕ × List ℕ) → Bool → Command

-- what stands outside the definitions: how the words are read, and the stored functions by name
-- and meaning
pub record Outside : Type 0 where
  pub command : List (List ℕ) → Result Command Refusal
  pub hooks : List HookName
  pub answers : Answers

abbrev pub how : Bool → Memories
how each = if each then by_patch else in_total

-- what `check` prints
abbrev pub accepted_text : Plan → List ℕ
accepted_text plan = flat_map (λ (f : Field). line (codes "field" ∷ f.name ∷ [])) plan.fields
    ++ line (codes "accepted" ∷ [])

module _ (outside : Outside) where
  abbrev pub run_of : Plan → Initial → RunData
  run_of plan initial = record { plan = plan; initial = initial; answers = outside.answers }

  -- on a layout, with the inputs read
  abbrev pub spread_run : Files → Defines → ℕ → Memories → Answer
  spread_run files defines workers shown =
      after (plan_read outside.hooks files defines) λ read.
      after (layout_read read.0 read.1 workers) λ layout.
      after (inputs_read files read.1) λ initial.
      run_answer (run_of read.1 initial) layout shown

  abbrev pub after_calls : List StoreCall → Answer → Answer
  after_calls calls a = record { status = a.status; text = a.text; calls = calls ++ a.calls }

  -- what a command answers
  abbrev pub command_answer : Files → Command → Answer
  command_answer files (demo x y steps px each) =
      after (told_as layout_refusal (demo_layout x px)) λ layout.
      run_answer (run_of (demo_plan x y steps) (demo_initial x y)) layout (how each)
  command_answer files (serial defines each) = spread_run files defines 1 (how each)
  command_answer files (plain defines) =
      after (plan_read outside.hooks files defines) λ read.
      after (inputs_read files read.1) λ initial.
      run_answer (run_of read.1 initial) whole_domain unsaid
  command_answer files (check defines) =
      after (plan_read outside.hooks files defines) λ read.
      after (layout_read read.0 read.1 1) λ layout.
      record { status = 0; text = accepted_text read.1; calls = [] }
  command_answer files (gen n) =
      after_calls (gen_calls n) (spread_run (files_after_all files (gen_calls n)) [] 1 in_total)
  command_answer files (threads workers defines each) = spread_run files defines workers (how each)

  -- what the words answer
  unfoldable pub answer_of : List (List ℕ) → Files → Answer
  answer_of words files = after (outside.command words) (command_answer files)
