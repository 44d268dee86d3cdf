-- The files of a store: what each name holds.
use Rattle.std.specs.Prelude.{ℕ, ◌+◌, ◌-◌, ◌^◌, ◌<◌, ◌≤◌, ◌==◌, Bool, ◌&&◌, ◌||◌, nat_lt, nat_le}
use Rattle.std.specs.Prelude.{List, [], ◌++◌, length, take, drop, Option, Some, None, Result, Ok}
use Rattle.std.specs.Prelude.{Err, unwrap_or, if◌then◌else◌, IsErrOf}
use Rattle.std.specs.Str.{bytes_eq}
use Rattle.std.specs.List.{list_all}
use Rattle.std.specs.Char.{is_ascii_alphanumeric}
use Rattle.wf_io.specs.declared.store.IoError.{IoError}
use Rattle.wf_io.specs.declared.store.IoError.TheVariants.{Fault, Memory}

-- the bytes that each name has, if it is a file's
abbrev pub Files : Type 0
Files = List ℕ → Option (List ℕ)

-- the files with these bytes at the name
abbrev pub with_file : Files → List ℕ → List ℕ → Files
with_file files name bytes = λ q. if bytes_eq q name then Some bytes else files q

-- the bytes of a name, and none where there is no such file
abbrev pub bytes_at : Files → List ℕ → List ℕ
bytes_at files name = unwrap_or (files name) []

-- a file with the bytes from place `at` on replaced
abbrev pub patched : List ℕ → ℕ → List ℕ → List ℕ
patched old at bytes = take at old ++ bytes ++ drop (at + length bytes) old

-- a name that a store takes: 1 to 128 letters, digits, `_`, `-`, `.` and `:`
abbrev pub is_store_name : List ℕ → Bool
is_store_name word = nat_lt 0 (length word) && nat_le (length word) 128
    && list_all (λ b. (is_ascii_alphanumeric b || (b == 95)) || (b == 45) || (b == 46)
    || (b == 58)) word

-- what is told stays told, and what is not told is never told; and where it is told, it changes so
abbrev pub Told : {X : Type 0} → Option X → Option X → (X → X → Type 0) → Type 0
Told None None P = Unit {0}
Told None (Some n) P = ⊥
Told (Some m) None P = ⊥
Told (Some m) (Some n) P = P m n

-- a count of faults rose; one that stands at the greatest value of 64 bits counts as risen
abbrev pub Rose : ℕ → ℕ → Type 0
Rose before now = now < 2 ^ 64 - 1 → before < now

-- a count of faults did not fall, and it rose where the call answered `Fault`
pub record Counted {X : Type 0} (before now : ℕ) (result : Result X IoError) : Type 0 where
  pub later : before ≤ now
  pub rose : IsErrOf result Fault → Rose before now

-- the name of a call that answered `Fault`, and else no text
abbrev pub failed_name : {X : Type 0} → Result X IoError → List ℕ → List ℕ
failed_name (Ok x) name = []
failed_name (Err Fault) name = name
failed_name (Err Memory) name = []
