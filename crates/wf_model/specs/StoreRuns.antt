-- What a run of store calls leaves, done whole or stopped by a call that failed.
use Rattle.std.specs.Prelude.{◌≡◌, ◌⊎◌, ℕ, ◌≤◌, List, [], ◌∷◌, ◌++◌, length, drop, Option, Some}
use Rattle.std.specs.Prelude.{None}
use Rattle.wf_model.specs.Files.{Files, StoreCall, create, append, write_at, with_file, bytes_at}
use Rattle.wf_model.specs.Files.{patched, files_after, files_after_all}

-- what is told stays told, and what is not told is never told; and where it is told, it changes so
abbrev pub Told : {X : Type 0} → Option X → Option X → (X → X → Type 0) → Type 0
Told None None P = Unit {0}
Told None (Some n) P = ⊥
Told (Some m) None P = ⊥
Told (Some m) (Some n) P = P m n

-- what a call that failed may leave: a name that was made or not, any bytes behind the old ones,
-- any bytes in the range
abbrev pub MayLeave : StoreCall → Files → Files → Type 0
MayLeave (create name) m n = (n ≡ m) ⊎ (n ≡ with_file m name [])
MayLeave (append name bytes) m n =
    (rest : List ℕ) × (n ≡ with_file m name (bytes_at m name ++ rest))
MayLeave (write_at name at bytes) m n =
    (other : List ℕ) × (length other ≡ length bytes)
    × (n ≡ with_file m name (patched (bytes_at m name) at other))

-- the same of the first of the calls, if there is one
abbrev pub FirstMayLeave : List StoreCall → Files → Files → Type 0
FirstMayLeave [] m n = ⊥
FirstMayLeave (c ∷ cs) m n = MayLeave c m n

-- the first `done` calls were made, and nothing more, or what the next one, which failed, may leave
pub record IsPrefix (calls : List StoreCall) (m n : Files) : Type 0 where
  pub done : ℕ
  pub within : done ≤ length calls
  pub left : (n ≡ files_after m calls done)
      ⊎ FirstMayLeave (drop done calls) (files_after m calls done) n

-- all calls were made, in order
abbrev pub Ran : List StoreCall → Option Files → Option Files → Type 0
Ran calls old new = Told old new (λ m n. n ≡ files_after_all m calls)

-- a first part of the calls was made
abbrev pub Stopped : List StoreCall → Option Files → Option Files → Type 0
Stopped calls old new = Told old new (IsPrefix calls)
