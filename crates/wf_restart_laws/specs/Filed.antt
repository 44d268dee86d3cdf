-- The restart files of a run: the frame of each, the bytes that stand at its name at the run's end,
-- and what is read of them.
use Rattle.std.specs.Prelude.{◌≡◌, ℕ, ◌+◌, ◌*◌, ◌≤◌, true, List, ◌++◌, flat_map}
use Rattle.std.specs.Prelude.{Some, Ok, All, IsTrue, FitsSigned, Contains}
use Rattle.std.specs.Int.{w32}
use Rattle.wf_model.specs.declared.frame.Frame.{Frame}
use Rattle.wf_model.specs.declared.header.Header.{Header}
use Rattle.wf_model.specs.declared.plan.Plan.{Plan}
use Rattle.wf_model.specs.Plans.{domain_of, begin_of}
use Rattle.wf_model.specs.Grids.{Grids, level_list}
use Rattle.wf_model.specs.Letters.{Text}
use Rattle.wf_model.specs.Calendar.{moment_of, time_text}
use Rattle.wf_model.specs.Dates.{seconds_before}
use Rattle.wf_model.specs.Bytes.{header_bytes}
use Rattle.wf_model.specs.CdfRead.{header_at}
use Rattle.wf_model.specs.Files.{Files, StoreCall, create, append, write_at, files_after_all}
use Rattle.wf_model.specs.Script.{restart_stream}
use Rattle.wf_model.specs.Streams.{file_list, file_name}
use Rattle.wf_model.specs.Outcome.{RunData, grids_at}
use Rattle.wf_model.specs.Frames.{frames_of, frames_written, slab_of}
use Rattle.wf_model.specs.Writes.{record_of, steps_at, frame_calls, writes_of}
use Rattle.wf_model.specs.InputOf.{input_of, own_points, is_restored, level_read}
use Rattle.wf_model.specs.InputOf.{slab_read, level_asked, times, domain_begin}
use Rattle.wf_model.specs.Sound.{IsDomain, IsLevel, IsSoundPlan}
use Rattle.wf_model.specs.SoundRun.{IsSoundRun}
use Rattle.wf_model.specs.Continued.{time_after, place_after, steps_after, goes_on}
use Rattle.wf_model.specs.Continued.{begin_after, levels_after, IsRestartTime, IsContinuedPlan}
use Rattle.wf_cdf_laws.specs.FileNames.{HasFileNames}
use Rattle.wf_cdf_laws.specs.FilesAgain.{header_with}
use Rattle.wf_restart_laws.specs.ReadBack.{HasInts, HasFilesOf}

-- ---- numbers

-- a run that begins with numbers of 32 bits holds no others, at no place
abbrev pub GridsHaveInts : Type 0
GridsHaveInts =
    (r : RunData) (n d f : ℕ) → HasInts r.initial →
    All (FitsSigned w32) (level_list r.plan d f (grids_at r n))

-- nor in file shape
abbrev pub FileListsHaveInts : Type 0
FileListsHaveInts =
    (r : RunData) (n d f : ℕ) → HasInts r.initial →
    All (FitsSigned w32) (file_list r.plan d f (grids_at r n))

-- a level's own points of its list in file shape are its list
abbrev pub FileListsHoldOwnPoints : Type 0
FileListsHoldOwnPoints =
    (plan : Plan) (d f : ℕ) (g : Grids) → IsSoundPlan plan → IsDomain plan d → IsLevel plan f →
    own_points plan d f (file_list plan d f g) ≡ level_list plan d f g

-- ---- the frame

-- the name of a domain's restart file
abbrev pub restart_name : RunData → ℕ → ℕ → Text
restart_name r m d = file_name restart_stream d (time_text r.plan.start (time_after r m))

-- the restart frame of a domain after m steps: it is the first in its file, and shows the grids
-- there
pub record IsRestartFrame (r : RunData) (m d : ℕ) (frame : Frame) : Type 0 where
  pub written : Contains (frames_written r) frame
  pub domain : frame.domain ≡ d
  pub stream : frame.stream ≡ restart_stream
  pub time : frame.time ≡ time_text r.plan.start (time_after r m)
  pub file : frame.file ≡ restart_name r m d
  pub first : frame.first ≡ true
  pub rec : frame.rec ≡ 0
  pub steps : steps_at r frame ≡ steps_after r m d
  pub slabs : (f : ℕ) → slab_of r frame f ≡ file_list r.plan d f (grids_at r (place_after r m))

-- each domain that goes on has one
abbrev pub RestartFramesAreWritten : Type 0
RestartFramesAreWritten =
    (r : RunData) (m d : ℕ) → IsSoundRun r → IsRestartTime r m → IsDomain r.plan d →
    goes_on r m d ≡ true → (frame : Frame) × IsRestartFrame r m d frame

-- no other frame of the run has its file
abbrev pub RestartFilesAreApart : Type 0
RestartFilesAreApart =
    (r : RunData) (m d : ℕ) (frame : Frame) → IsSoundRun r → IsRestartTime r m → IsDomain r.plan d →
    Contains (frames_of r) frame → frame.file ≡ restart_name r m d →
    (goes_on r m d ≡ true) × (frame.domain ≡ d) × (frame.stream ≡ restart_stream)
    × (frame.time ≡ time_text r.plan.start (time_after r m))

-- ---- the file

-- the header of a restart file with its record
abbrev pub restart_header : RunData → ℕ → ℕ → Header
restart_header r m d =
    header_with r.plan d restart_stream (begin_of r.initial.begins d).start_text
    (steps_after r m d) 1

-- the header of a frame's file with one record
abbrev pub first_header : RunData → Frame → Header
first_header r frame =
    header_with r.plan frame.domain frame.stream (begin_of r.initial.begins frame.domain).start_text
    (steps_at r frame) 1

-- the bytes of a file of one frame
abbrev pub one_frame_bytes : RunData → Header → Frame → List ℕ
one_frame_bytes r h frame =
    header_bytes h ++ flat_map (λ (bytes : List ℕ). bytes) (record_of r frame)

-- the calls of a frame that is the first in its file leave these bytes there
abbrev pub FirstFramesMakeTheirFiles : Type 0
FirstFramesMakeTheirFiles =
    (r : RunData) (frame : Frame) (m : Files) → frame.first ≡ true → frame.rec ≡ 0 →
    files_after_all m (frame_calls r frame) frame.file
    ≡ Some (one_frame_bytes r (first_header r frame) frame)

-- the file that a call is on
abbrev pub called : StoreCall → Text
called (create name) = name
called (append name bytes) = name
called (write_at name at bytes) = name

-- calls on other files leave a file as it is
abbrev pub OtherCallsLeaveAFile : Type 0
OtherCallsLeaveAFile =
    (m : Files) (calls : List StoreCall) (name : Text) → All (λ c. called c ≡ name → ⊥) calls →
    files_after_all m calls name ≡ m name

-- so at the run's end a restart file holds its frame
abbrev pub RestartFilesStand : Type 0
RestartFilesStand =
    (r : RunData) (m d : ℕ) (old : Files) (frame : Frame) → IsSoundRun r → IsRestartTime r m →
    IsDomain r.plan d → IsRestartFrame r m d frame →
    files_after_all old (writes_of r) (restart_name r m d)
    ≡ Some (one_frame_bytes r (restart_header r m d) frame)

-- ---- what is read

-- its header
abbrev pub RestartHeadersAreRead : Type 0
RestartHeadersAreRead =
    (r : RunData) (m d : ℕ) (rest : List ℕ) → IsSoundRun r → HasFileNames r.plan restart_stream →
    IsDomain r.plan d →
    header_at (header_bytes (restart_header r m d) ++ rest) ≡ Ok (restart_header r m d)

-- its time, and each level that it holds
pub record IsReadBack (r : RunData) (m d : ℕ) (bytes : List ℕ) : Type 0 where
  pub header : header_at bytes ≡ Ok (restart_header r m d)
  pub time : slab_read bytes (restart_header r m d) times
      ≡ Ok (time_text r.plan.start (time_after r m))
  pub there : (f : ℕ) → IsLevel r.plan f → IsTrue (is_restored r.plan f) →
      (found : List ℕ)
      × (slab_read bytes (restart_header r m d) (level_asked r.plan d restart_stream f) ≡ Ok found)
  pub levels : (f : ℕ) → IsLevel r.plan f → IsTrue (is_restored r.plan f) →
      level_read r.plan d restart_stream bytes (restart_header r m d) f
      ≡ level_list r.plan d f (grids_at r (place_after r m))

-- so they are of its frame's bytes
abbrev pub RestartFramesAreReadBack : Type 0
RestartFramesAreReadBack =
    (r : RunData) (m d : ℕ) (frame : Frame) → IsSoundRun r → HasInts r.initial →
    HasFileNames r.plan restart_stream → IsRestartTime r m → IsDomain r.plan d →
    IsRestartFrame r m d frame →
    IsReadBack r m d (one_frame_bytes r (restart_header r m d) frame)

-- the start and the steps that it tells lead to the restart time
abbrev pub BeginsLeadToTheTime : Type 0
BeginsLeadToTheTime =
    (r : RunData) (m d : ℕ) (old : Files) → IsSoundRun r → input_of old r.plan ≡ Ok r.initial →
    1 ≤ m → m ≤ r.plan.steps → IsDomain r.plan d → goes_on r m d ≡ true →
    seconds_before (moment_of (begin_of r.initial.begins d).start_text)
    + steps_after r m d * (domain_of r.plan d).seconds
    ≡ seconds_before (moment_of r.plan.start) + time_after r m

-- each domain is read to what it begins with
abbrev pub DomainsAreReadBack : Type 0
DomainsAreReadBack =
    (r : RunData) (m : ℕ) (plan : Plan) (old files : Files) (d : ℕ) → IsSoundRun r →
    HasInts r.initial → HasFileNames r.plan restart_stream → input_of old r.plan ≡ Ok r.initial →
    IsRestartTime r m → IsContinuedPlan r m plan → HasFilesOf r m plan old files →
    IsDomain r.plan d →
    domain_begin files plan d
    ≡ Ok (record { begin = begin_after r m d; grids = levels_after r m d })
