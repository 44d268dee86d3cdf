-- The numbers that a store and a sink keep: of calls and of faults.
use Rattle.std.specs.Prelude.{ℕ, ◌+◌, ◌-◌, ◌^◌, min, Result, Ok, Err}
use Rattle.wf_io.specs.declared.store.IoError.{IoError}
use Rattle.wf_io.specs.declared.store.IoError.TheVariants.{Fault, Memory}

-- the next number, up to the greatest of 64 bits, where it stands still
abbrev pub one_more : ℕ → ℕ
one_more n = min (n + 1) (2 ^ 64 - 1)

-- the count of faults after a call that answered this
abbrev pub faults_after : {X : Type 0} → Result X IoError → ℕ → ℕ
faults_after (Ok x) n = n
faults_after (Err Fault) n = one_more n
faults_after (Err Memory) n = n
