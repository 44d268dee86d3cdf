-- What a sink in memory holds.
use Rattle.std.specs.Prelude.{◌≡◌, ℕ, List, Result}
use Rattle.wf_io.specs.Counts.{one_more, faults_after}
use Rattle.wf_io.specs.declared.store.IoError.{IoError}

-- the bytes that it took, the puts that are to fail, and how many puts and faults there were
pub record SinkState : Type 0 where
  pub bytes : List ℕ
  pub failing : List ℕ
  pub calls : ℕ
  pub faults : ℕ

-- a put has the next number, its fault is counted, and the list of failing puts stays
pub record IsNumberedPut {X : Type 0} (old new : SinkState)
    (result : Result X IoError) : Type 0 where
  pub number : new.calls ≡ one_more old.calls
  pub count : new.faults ≡ faults_after result old.faults
  pub listed : new.failing ≡ old.failing
