-- A run of store calls of which one failed.
use Rattle.std.specs.Prelude.{◌≡◌, ℕ, ◌<◌, List, [], ◌∷◌, length, drop, Option}
use Rattle.wf_model.specs.Files.{Files, StoreCall, create, append, write_at, files_after}
use Rattle.wf_model.specs.StoreRuns.{Told, MayLeave}

-- the file that a call is on
abbrev pub file_of : StoreCall → List ℕ
file_of (create name) = name
file_of (append name bytes) = name
file_of (write_at name at bytes) = name

-- the first of the calls is on this file, and the files are as it may leave them where it fails
abbrev pub FirstFails : List ℕ → List StoreCall → Files → Files → Type 0
FirstFails name [] m n = ⊥
FirstFails name (c ∷ cs) m n = (file_of c ≡ name) × MayLeave c m n

-- the first `done` calls were made, and the next one, on this file, failed
pub record IsFailed (calls : List StoreCall) (name : List ℕ) (m n : Files) : Type 0 where
  pub done : ℕ
  pub within : done < length calls
  pub left : FirstFails name (drop done calls) (files_after m calls done) n

-- one of the calls failed, on this file, and those before it were made
abbrev pub Failed : List StoreCall → List ℕ → Option Files → Option Files → Type 0
Failed calls name old new = Told old new (IsFailed calls name)
