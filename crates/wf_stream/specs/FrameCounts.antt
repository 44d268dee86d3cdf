-- How the frames of a run are counted, one output after another.
use Rattle.std.specs.Prelude.{◌≡◌, ℕ, ◌+◌, ◌-◌, ◌*◌, ◌%◌, ◌^◌, ◌<◌, ◌≤◌, ◌==◌, ◌&&◌, List, []}
use Rattle.std.specs.Prelude.{length, filter, take, drop, if◌then◌else◌, slice_index_or}
use Rattle.wf_model.specs.declared.frame.Frame.{Frame}
use Rattle.wf_model.specs.declared.plan.Plan.{Plan}
use Rattle.wf_model.specs.Calendar.{time_text}
use Rattle.wf_model.specs.Frames.{Output, outputs_from}
use Rattle.wf_model.specs.Outcome.{RunData, script, no_entry}
use Rattle.wf_model.specs.Plans.{domain_of}
use Rattle.wf_model.specs.Script.{restart_stream}
use Rattle.wf_model.specs.Sound.{IsDomain}
use Rattle.wf_model.specs.Streams.{frames_per_file, file_name}
use Rattle.wf_stream.specs.declared.frames.Emitted.{Emitted}
use Rattle.wf_stream.specs.declared.frames.StreamFile.{StreamFile}

-- the output that an emitted entry is
abbrev pub output : Emitted → Output
output e = record { place = e.place; stream = e.stream; entry = e.entry }

-- ---- one file

-- the outputs of a domain and stream
abbrev pub like_outputs : ℕ → ℕ → List Output → List Output
like_outputs d s os = filter (λ (q : Output). (s == q.stream) && (d == q.entry.domain)) os

-- an output that stands for one past the end
abbrev pub no_output : Output
no_output = record { place = 0; stream = 0; entry = no_entry }

-- the first frame in the file that the next frame would join
abbrev pub opener_in : Plan → ℕ → ℕ → List Output → Output
opener_in plan d s os =
    let like = like_outputs d s os in
    slice_index_or like (length like - length like % frames_per_file plan d s) no_output

-- the file of a domain and stream behind these outputs
pub record IsFileOf (plan : Plan) (os : List Output) (d s : ℕ) (x : StreamFile) : Type 0 where
  pub count : x.count ≡ length (like_outputs d s os)
  -- where the next frame would not be the first in its file
  pub opened : (x.count % frames_per_file plan d s ≡ 0 → ⊥) →
      x.opened ≡ time_text plan.start (opener_in plan d s os).entry.time

-- the next frame's number in its file
abbrev pub next_record : Plan → StreamFile → Output → ℕ
next_record plan x o = x.count % frames_per_file plan o.entry.domain o.stream

-- the time of the first frame in the file of the next frame
abbrev pub next_opened : Plan → StreamFile → Output → List ℕ
next_opened plan x o =
    if next_record plan x o == 0 then time_text plan.start o.entry.time else x.opened

-- the file with one more frame
abbrev pub file_with : Plan → StreamFile → Output → StreamFile
file_with plan x o = record { count = x.count + 1; opened = next_opened plan x o }

-- the frame of an output that joins the file
abbrev pub frame_in : Plan → ℕ → StreamFile → Output → Frame
frame_in plan number x o = record {
  number = number;
  place = o.place;
  domain = o.entry.domain;
  stream = o.stream;
  time = time_text plan.start o.entry.time;
  file = file_name o.stream o.entry.domain (next_opened plan x o);
  first = next_record plan x o == 0;
  rec = next_record plan x o;
}

-- an output of a domain and stream of the plan, within the run's time
pub record IsKnownOutput (plan : Plan) (o : Output) : Type 0 where
  pub domain : IsDomain plan o.entry.domain
  pub stream : o.stream ≤ restart_stream
  pub time : o.entry.time ≤ plan.steps * (domain_of plan 1).seconds

-- ---- all files

-- a file with no frame
abbrev pub no_file : StreamFile
no_file = record { count = 0; opened = [] }

-- by domain, then stream
abbrev pub file_place : ℕ → ℕ → ℕ
file_place d s = (d - 1) * 11 + s

-- the files of all domains and streams behind these outputs
pub record AreFilesOf (plan : Plan) (os : List Output) (files : List StreamFile) : Type 0 where
  pub count : length files ≡ length plan.domains * 11
  pub each : (d s : ℕ) → IsDomain plan d → s ≤ restart_stream →
      IsFileOf plan os d s (slice_index_or files (file_place d s) no_file)

-- so many frames were given, and the next is of the entry at this place or behind it
pub record IsUnderWay (r : RunData) (number place : ℕ) (files : List StreamFile) : Type 0 where
  pub short : length (script r) < 2 ^ 32
  pub within : number ≤ place
  pub rest : drop number (outputs_from 0 (script r)) ≡ outputs_from place (drop place (script r))
  pub counted : AreFilesOf r.plan (take number (outputs_from 0 (script r))) files
