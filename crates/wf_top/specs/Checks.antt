-- What `check` answers until the halo check is made of the plan, and how it ends.
use Rattle.std.specs.Prelude.{◌≡◌, ◌⊎◌, ℕ, Bool, List, [], ◌∷◌, ◌++◌, flat_map, Option, Some}
use Rattle.std.specs.Prelude.{Result, codes}
use Rattle.wf_io.specs.Files.{Told}
use Rattle.wf_model.specs.declared.config.Config.{Config}
use Rattle.wf_model.specs.declared.table.HookName.{HookName}
use Rattle.wf_model.specs.Letters.{Text}
use Rattle.wf_model.specs.KeptLines.{Defines}
use Rattle.wf_model.specs.NamesOf.{names_of}
use Rattle.wf_model.specs.Files.{Files}
use Rattle.wf_model.specs.Refusals.{Refusal, line}
use Rattle.wf_model.specs.Answer.{Answer, after}
use Rattle.wf_setup.specs.declared.cases.Case.{Case}
use Rattle.wf_setup.specs.Cases.{case_read}
use Rattle.wf_setup.specs.Asked.{case_names}
use Rattle.wf_top.specs.Ends.{ReadFailed, memory_text}

-- ---- the answer

-- the line of an active field level
abbrev pub field_line : Text × Bool → Text
field_line level = line (codes "field" ∷ level.0 ∷ [])

-- the active field levels in order, which are the same whatever functions are stored, and that all
-- was read
abbrev pub read_text : Config → Text
read_text config = flat_map field_line (names_of config []).levels ++ line (codes "read" ∷ [])

-- the answer to what was read: a refusal, or the text. It has no calls
abbrev pub read_answer : Result Case Refusal → Answer
read_answer read =
    after read λ case. record { status = 0; text = read_text case.config; calls = [] }

-- what `check` answers with these files, where these functions are stored
abbrev pub check_answer : List HookName → Files → Defines → Answer
check_answer hooks files defines = read_answer (case_read hooks files defines)

-- ---- how it ends: the files of the store stay. `Says status text` is `Said` of the sink and the
-- status that came out

-- the answer was said. With files that the store tells it is theirs, and else that of some reading
pub record CheckAnswered (hooks : List HookName) (defines : Defines) (old new : Option Files)
    (Says : ℕ → List ℕ → Type 0) : Type 0 where
  pub read : Result Case Refusal
  pub is : (m : Files) → old ≡ Some m → read ≡ case_read hooks m defines
  pub files : Told old new (λ m n. n ≡ m)
  pub said : Says (read_answer read).status (read_answer read).text

-- memory was wanting
pub record CheckLacked (old new : Option Files) (Says : ℕ → List ℕ → Type 0) : Type 0 where
  pub files : Told old new (λ m n. n ≡ m)
  pub said : Says 10 memory_text

abbrev pub CheckEnded : List HookName → Defines → Option Files → Option Files → ℕ → ℕ → List ℕ →
    (ℕ → List ℕ → Type 0) → Type 0
CheckEnded hooks defines old new before after failed Says =
    CheckAnswered hooks defines old new Says
    ⊎ (ReadFailed (λ m. case_names m defines) old new before after failed Says
    ⊎ CheckLacked old new Says)
