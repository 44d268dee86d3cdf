-- The store calls of a run, and its summary.
use Rattle.std.specs.Prelude.{ℕ, ◌+◌, List, [], ◌∷◌, ◌++◌, length, map, flat_map, filter, nat_lt}
use Rattle.std.specs.Prelude.{sum, sum_by, if◌then◌else◌}
use Rattle.wf_model.specs.declared.frame.Frame.{Frame}
use Rattle.wf_model.specs.Files.{StoreCall, create, append, write_at}
use Rattle.wf_model.specs.Plans.{begin_of}
use Rattle.wf_model.specs.Bytes.{four_bytes, slab_bytes, char_bytes, header_bytes}
use Rattle.wf_model.specs.Headers.{file_header, placed}
use Rattle.wf_model.specs.Outcome.{RunData, entry_at}
use Rattle.wf_model.specs.Frames.{frames_written, variables_of, slab_of}

-- the steps that a domain has behind it at a frame
abbrev pub steps_at : RunData → Frame → ℕ
steps_at r frame = (entry_at r frame.place).step

-- the header of a frame's file, with no record
abbrev pub header_of : RunData → Frame → List ℕ
header_of r frame =
    header_bytes (placed (file_header r.plan frame.domain frame.stream
    (begin_of r.initial.begins frame.domain).start_text (steps_at r frame)))

-- the bytes of a frame, `Times` first. `Times` alone is not padded
unfoldable pub record_of : RunData → Frame → List (List ℕ)
record_of r frame =
    char_bytes (nat_lt 0 (length (variables_of r frame))) frame.time
    ∷ map (λ f. slab_bytes (slab_of r frame f)) (variables_of r frame)

-- a frame: its file and header where it is the first in its file, each of its slabs, and the new
-- number of records
unfoldable pub frame_calls : RunData → Frame → List StoreCall
frame_calls r frame =
    (if frame.first then create frame.file ∷ append frame.file (header_of r frame) ∷ [] else [])
    ++ map (append frame.file) (record_of r frame)
    ++ write_at frame.file 4 (four_bytes (frame.rec + 1)) ∷ []

-- the store calls of a run: those of the frames before the first overflow
unfoldable pub writes_of : RunData → List StoreCall
writes_of r = flat_map (frame_calls r) (frames_written r)

-- ---- the summary

-- files made, records, bytes behind the headers, and their sum
pub record Summary : Type 0 where
  pub files : ℕ
  pub records : ℕ
  pub bytes : ℕ
  pub sum : ℕ

-- the summary of a run
unfoldable pub summary_of : RunData → Summary
summary_of r = record {
  files = length (filter (λ frame. frame.first) (frames_written r));
  records = length (frames_written r);
  bytes = sum_by (λ frame. sum_by length (record_of r frame)) (frames_written r);
  sum = sum_by (λ frame. sum_by sum (record_of r frame)) (frames_written r);
}
