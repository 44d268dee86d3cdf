-- What calls on one file of a store leave, all made, or ended by an error.
use Rattle.std.specs.Prelude.{◌≡◌, ℕ, ◌+◌, ◌<◌, ◌≤◌, ◌==◌, Bool, ◌||◌, List, [], ◌∷◌, length, map}
use Rattle.std.specs.Prelude.{fold, nat_lt, sum, Option, Some, Result, OnOk, OnErr, IsErrOf, IsTrue}
use Rattle.std.specs.Prelude.{if◌then◌else◌}
use Rattle.std.specs.Char.{is_ascii_alphanumeric}
use Rattle.wf_io.specs.Files.{Rose, is_store_name}
use Rattle.wf_io.specs.declared.store.IoError.{IoError}
use Rattle.wf_io.specs.declared.store.IoError.TheVariants as io
use Rattle.wf_model.specs.declared.frame.Frame.{Frame}
use Rattle.wf_model.specs.declared.layout.Layout.{Layout}
use Rattle.wf_model.specs.Bytes.{char_bytes, slab_bytes}
use Rattle.wf_model.specs.Failed.{Failed}
use Rattle.wf_model.specs.Files.{Files, StoreCall, create, append}
use Rattle.wf_model.specs.Frames.{Slab}
use Rattle.wf_model.specs.Held.{slab_numbers}
use Rattle.wf_model.specs.Outcome.{RunData, script}
use Rattle.wf_model.specs.Script.{restart_stream}
use Rattle.wf_model.specs.Sound.{IsDomain}
use Rattle.wf_model.specs.StoreRuns.{Ran, Stopped}
use Rattle.wf_model.specs.Streams.{one_if}
use Rattle.wf_model.specs.Writes.{header_of, record_of}
use Rattle.wf_stream.specs.Writing.{HasRecords}
use Rattle.wf_stream.specs.declared.writer.StreamError.{StreamError}
use Rattle.wf_stream.specs.declared.writer.StreamError.TheVariants as stream
use Rattle.wf_stream.specs.declared.writer.Totals.{Totals}

-- a byte of a name that a store takes
abbrev pub is_store_byte : ℕ → Bool
is_store_byte b = (is_ascii_alphanumeric b || (b == 95)) || (b == 45) || (b == 46) || (b == 58)

-- an error of a store, as the writer tells it
abbrev pub stream_error_of : IoError → StreamError
stream_error_of io.Fault = stream.Store
stream_error_of io.Memory = stream.Memory

-- where the files are told, this one is there with its number of records
abbrev pub HasRoom : List ℕ → Option Files → Type 0
HasRoom name files = (m : Files) → files ≡ Some m → HasRecords name m

-- the calls were all made, or a first part of them: from what the store told before to what it
-- tells after
pub record Wrote {X : Type 0} (calls : List StoreCall) (name : List ℕ) (old new : Option Files)
    (before after : ℕ) (failed : List ℕ) (result : Result X StreamError) : Type 0 where
  pub ok : OnOk result (Ran calls old new)
  pub err : OnErr result (Stopped calls old new)
  -- of a fault: one of the calls failed, the store counted it, and it was the last call
  pub failed_call : IsErrOf result stream.Store → Failed calls name old new
  pub later : before ≤ after
  pub rose : IsErrOf result stream.Store → Rose before after
  pub last : IsErrOf result stream.Store → failed ≡ name

-- totals with some bytes more
abbrev pub with_bytes : Totals → List ℕ → Totals
with_bytes t bytes = record {
  files = t.files;
  records = t.records;
  bytes = t.bytes + length bytes;
  sum = t.sum + sum bytes;
}

-- totals with the bytes of all these parts more
abbrev pub with_parts : Totals → List (List ℕ) → Totals
with_parts t parts = fold with_bytes t parts

-- the calls that add these parts at a file's end
abbrev pub appends : List ℕ → List (List ℕ) → List StoreCall
appends name parts = map (append name) parts

-- the bytes of a slab
unfoldable pub part_of : RunData → Layout → Slab → List ℕ
part_of r layout s = slab_bytes (slab_numbers r layout s.frame s.field)

-- the bytes of a record: its time, which is padded where it has slabs, and its slabs
abbrev pub record_parts : RunData → Layout → List ℕ → List Slab → List (List ℕ)
record_parts r layout time slabs =
    char_bytes (nat_lt 0 (length slabs)) time ∷ map (part_of r layout) slabs

-- the calls that make the file of a frame that is the first in it
unfoldable pub opening : RunData → Frame → List StoreCall
opening r frame =
    if frame.first then create frame.file ∷ append frame.file (header_of r frame) ∷ [] else []

-- totals with a frame more
abbrev pub with_frame : RunData → Totals → Frame → Totals
with_frame r t frame =
    let u = with_parts t (record_of r frame) in
    record {
      files = u.files + one_if frame.first;
      records = frame.number + 1;
      bytes = u.bytes;
      sum = u.sum;
    }

-- a frame's place, domain, stream and record are within their ranges, and a store takes the name of
-- its file
pub record IsInRange (r : RunData) (frame : Frame) : Type 0 where
  pub place : frame.place < length (script r)
  pub domain : IsDomain r.plan frame.domain
  pub stream : frame.stream ≤ restart_stream
  pub rec : frame.rec + 1 ≤ 100000
  pub file : IsTrue (is_store_name frame.file)
