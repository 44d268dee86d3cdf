-- How a command ends: what it did in the store, what it printed, and its status.
use Rattle.std.specs.Prelude.{◌≡◌, ◌⊎◌, ℕ, ◌≤◌, List, [], ◌∷◌, ◌++◌, length, take, Option, Some}
use Rattle.std.specs.Prelude.{Contains, codes}
use Rattle.wf_io.specs.Files.{Told, Rose}
use Rattle.wf_model.specs.Files.{Files}
use Rattle.wf_model.specs.StoreRuns.{Ran, Stopped}
use Rattle.wf_model.specs.Failed.{Failed}
use Rattle.wf_model.specs.Letters.{Text}
use Rattle.wf_model.specs.Refusals.{line}
use Rattle.wf_model.specs.Answer.{Answer}
use Rattle.wf_model.specs.Demo.{demo_file}

-- ---- the text

-- the sink took all of the text
abbrev pub TookAll : List ℕ → Option (List ℕ) → Option (List ℕ) → Type 0
TookAll text old new = Told old new (λ m n. n ≡ m ++ text)

-- the sink took a first part of the text
abbrev pub TookPart : List ℕ → Option (List ℕ) → Option (List ℕ) → Type 0
TookPart text old new = Told old new (λ m n. (k : ℕ) × (k ≤ length text) × (n ≡ m ++ take k text))

-- the text was put, and the status is its own
pub record PutWhole (status : ℕ) (text : List ℕ) (old new : Option (List ℕ))
    (result : ℕ) : Type 0 where
  pub ended : result ≡ status
  pub text_put : TookAll text old new

-- a put met want of memory
pub record PutLackedMemory (text : List ℕ) (old new : Option (List ℕ)) (result : ℕ) : Type 0 where
  pub ended : result ≡ 10
  pub text_put : TookPart text old new

-- a put failed, and the sink counted it
pub record PutFailed (text : List ℕ) (old new : Option (List ℕ))
    (before after result : ℕ) : Type 0 where
  pub ended : result ≡ 11
  pub counted : Rose before after
  pub text_put : TookPart text old new

-- a text was put for a status; of the sink: the bytes that it took and its count of faults, before
-- and after
abbrev pub Said : ℕ → List ℕ → Option (List ℕ) → Option (List ℕ) → ℕ → ℕ → ℕ → Type 0
Said status text old new before after result =
    PutWhole status text old new result
    ⊎ (PutLackedMemory text old new result ⊎ PutFailed text old new before after result)

-- ---- the command

abbrev pub store_text : List ℕ → List ℕ
store_text name = line (codes "store" ∷ name ∷ [])

abbrev pub memory_text : List ℕ
memory_text = line (codes "memory" ∷ [])

-- `Says status text` is `Said` of the sink and the status that came out

-- all calls were made in order, and the answer's text was said for its status
pub record AnsweredWhole (answer : Answer) (old new : Option Files) (Says : ℕ → List ℕ →
    Type 0) : Type 0 where
  pub files : Ran answer.calls old new
  pub said : Says answer.status answer.text

-- a call of the answer failed, on the file that is said, and the store counted it: it was the last
-- call, and those before it were made
pub record CallFailed (answer : Answer) (old new : Option Files) (before after : ℕ)
    (failed : List ℕ) (Says : ℕ → List ℕ → Type 0) : Type 0 where
  pub counted : Rose before after
  pub files : Failed answer.calls failed old new
  pub said : Says 9 (store_text failed)

-- the same of a demo, all of whose calls are on one file
pub record StoreFailed (answer : Answer) (old new : Option Files) (before after : ℕ)
    (failed : List ℕ) (Says : ℕ → List ℕ → Type 0) : Type 0 where
  pub counted : Rose before after
  pub name : failed ≡ demo_file
  pub files : Failed answer.calls failed old new
  pub said : Says 9 (store_text failed)

-- memory was wanting: a first part of the calls was made
pub record MemoryLacked (answer : Answer) (old new : Option Files) (Says : ℕ → List ℕ →
    Type 0) : Type 0 where
  pub files : Stopped answer.calls old new
  pub said : Says 10 memory_text

-- a call of the store failed while files were read, and the store counted it: it was the last call,
-- on a file that is asked for, and the text names it. The files stay
pub record ReadFailed (asked : Files → List Text) (old new : Option Files) (before after : ℕ)
    (failed : List ℕ) (Says : ℕ → List ℕ → Type 0) : Type 0 where
  pub counted : Rose before after
  pub name : (m : Files) → old ≡ Some m → Contains (asked m) failed
  pub files : Told old new (λ m n. n ≡ m)
  pub said : Says 9 (store_text failed)

-- the answer is given whole, or a counted fault of the store or want of memory stopped it; of the
-- store: its files and its count of faults, before and after, and the name of its last call where
-- that call failed
abbrev pub CallsEnded : Answer → Option Files → Option Files → ℕ → ℕ → List ℕ →
    (ℕ → List ℕ → Type 0) → Type 0
CallsEnded answer old new before after failed Says =
    AnsweredWhole answer old new Says
    ⊎ (CallFailed answer old new before after failed Says ⊎ MemoryLacked answer old new Says)

-- the same of a command without files but a demo's
abbrev pub Ended : Answer → Option Files → Option Files → ℕ → ℕ → List ℕ →
    (ℕ → List ℕ → Type 0) → Type 0
Ended answer old new before after failed Says =
    AnsweredWhole answer old new Says
    ⊎ (StoreFailed answer old new before after failed Says ⊎ MemoryLacked answer old new Says)
