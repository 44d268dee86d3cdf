-- What a writer of frames has written, and what it needs.
use Rattle.std.specs.Prelude.{ℕ, ◌+◌, ◌≤◌, List, length, map, filter, take, sum, sum_by, Option}
use Rattle.std.specs.Prelude.{Some, None, IsFalse, IsSome}
use Rattle.wf_model.specs.declared.frame.Frame.{Frame}
use Rattle.wf_model.specs.Files.{Files, bytes_at}
use Rattle.wf_model.specs.Frames.{Slab, frames_of, variables_of}
use Rattle.wf_model.specs.Outcome.{RunData}
use Rattle.wf_model.specs.Writes.{record_of}
use Rattle.wf_stream.specs.declared.writer.StreamError.{StreamError}
use Rattle.wf_stream.specs.declared.writer.Totals.{Totals}

-- how many frames a writer wrote, and the error that ended it
pub record Written : Type 0 where
  pub number : ℕ
  pub failed : Option StreamError

-- the number of the next frame
abbrev pub next_number : ℕ → Option Frame → ℕ
next_number n None = n
next_number n (Some frame) = n + 1

-- the frame and the level of a slab
abbrev pub label : Slab → ℕ × ℕ
label s = (s.frame, s.field)

-- those of a frame's variables, in order
abbrev pub labels : RunData → Frame → List (ℕ × ℕ)
labels r frame = map (λ f. (frame.number, f)) (variables_of r frame)

-- where the frame is not the first in its file, the file is there with its number of records
pub record HasRecords (file : List ℕ) (m : Files) : Type 0 where
  pub there : IsSome (m file)
  pub within : 8 ≤ length (bytes_at m file)

abbrev pub HasFile : Frame → Files → Type 0
HasFile frame m = IsFalse frame.first → HasRecords frame.file m

-- what the first n frames of a run come to
unfoldable pub totals_of : RunData → ℕ → Totals
totals_of r n = record {
  files = length (filter (λ (frame : Frame). frame.first) (take n (frames_of r)));
  records = length (take n (frames_of r));
  bytes = sum_by (λ frame. sum_by length (record_of r frame)) (take n (frames_of r));
  sum = sum_by (λ frame. sum_by sum (record_of r frame)) (take n (frames_of r));
}
