-- How a run on whole domains ends that writes its files.
use Rattle.std.specs.Prelude.{◌≡◌, ℕ, [], Option, Some}
use Rattle.wf_io.specs.Files.{Rose}
use Rattle.wf_model.specs.declared.finished.CoreError.{CoreError}
use Rattle.wf_model.specs.declared.finished.CoreError.TheVariants.{Overflow, Store, Memory}
use Rattle.wf_model.specs.declared.finished.Finished.{Finished}
use Rattle.wf_model.specs.declared.point.Point.{Point}
use Rattle.wf_model.specs.Failed.{Failed}
use Rattle.wf_model.specs.Files.{Files}
use Rattle.wf_model.specs.Letters.{Text}
use Rattle.wf_model.specs.Outcome.{RunData, outcome_of}
use Rattle.wf_model.specs.StoreRuns.{Ran, Stopped}
use Rattle.wf_model.specs.Writes.{Summary, writes_of}
use Rattle.wf_grid.specs.Held.{point_at_end}

-- a summary as it is told, without memories
abbrev pub finished_of : Summary → Finished
finished_of s =
    record { files = s.files; records = s.records; bytes = s.bytes; sum = s.sum; memories = [] }

-- the first overflow, with all frames before it written
pub record EndsByOverflow (r : RunData) (old new : Option Files) (point : Point) : Type 0 where
  pub first : point_at_end (outcome_of r) ≡ Some point
  pub written : Ran (writes_of r) old new

-- a call of the store failed, on the file that is named, and the store counted it: it was the
-- last call
pub record EndsByFault (r : RunData) (old new : Option Files) (before after : ℕ)
    (failed name : Text) : Type 0 where
  pub counted : Rose before after
  pub last : failed ≡ name
  pub files : Failed (writes_of r) name old new

-- of the store: its files and its count of faults, before and after, and the name of its last call
-- where that call failed
abbrev pub EndsBy : RunData → Option Files → Option Files → ℕ → ℕ → Text → CoreError → Type 0
EndsBy r old new before after failed (Overflow point) = EndsByOverflow r old new point
EndsBy r old new before after failed (Store name) = EndsByFault r old new before after failed name
EndsBy r old new before after failed Memory = Stopped (writes_of r) old new
