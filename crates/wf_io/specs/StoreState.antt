-- What a store in memory holds.
use Rattle.std.specs.Prelude.{◌≡◌, ◌==◌, ℕ, ◌<◌, true, false, length, slice_index_or, List, [], ◌∷◌}
use Rattle.std.specs.Prelude.{Option, Some, None, Result, if◌then◌else◌, find, option_map}
use Rattle.std.specs.Str.{bytes_eq}
use Rattle.wf_io.specs.Files.{Files}
use Rattle.wf_io.specs.Counts.{one_more, faults_after}
use Rattle.wf_io.specs.declared.store.IoError.{IoError}
use Rattle.wf_io.specs.declared.memory_store.FailingCall.{FailingCall}

-- a file: its name, and its bytes
pub record FileState : Type 0 where
  pub name : List ℕ
  pub bytes : List ℕ

-- the files, the calls that are to fail, and how many calls and faults there were; `failed` is the
-- name of the last call where it answered `Fault`, and else no text
pub record StoreState : Type 0 where
  pub files : List FileState
  pub failing : List FailingCall
  pub calls : ℕ
  pub faults : ℕ
  pub failed : List ℕ

-- what each name holds: the first file of that name
abbrev pub files_of : List FileState → Files
files_of [] q = None
files_of (f ∷ fs) q = if bytes_eq q f.name then Some f.bytes else files_of fs q

-- no file before place p has the name
abbrev pub NoneBefore : List FileState → List ℕ → ℕ → Type 0
NoneBefore fs name p =
    (k : ℕ) (d : FileState) → k < p → bytes_eq name (slice_index_or fs k d).name ≡ false

-- place p has the first file of that name
pub record IsPlace (fs : List FileState) (name : List ℕ) (p : ℕ) : Type 0 where
  pub within : p < length fs
  pub here : (d : FileState) → bytes_eq name (slice_index_or fs p d).name ≡ true
  pub first : NoneBefore fs name p

-- how many bytes the first entry for this call keeps, if the call is listed
abbrev pub kept_of : List FailingCall → ℕ → Option ℕ
kept_of failing call = option_map (λ f. f.kept) (find (λ f. f.call == call) failing)

-- the same of the next call
abbrev pub kept_of_next : StoreState → Option ℕ
kept_of_next store = kept_of store.failing (one_more store.calls)

-- a call has the next number, its fault is counted, and the list of failing calls stays
pub record IsNumbered {X : Type 0} (old new : StoreState) (result : Result X IoError) : Type 0 where
  pub number : new.calls ≡ one_more old.calls
  pub count : new.faults ≡ faults_after result old.faults
  pub listed : new.failing ≡ old.failing
