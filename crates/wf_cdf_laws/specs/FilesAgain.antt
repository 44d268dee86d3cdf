-- The files of a plan's streams are read again: their headers, and the frames that are written in
-- them.
use Rattle.std.specs.Prelude.{◌≡◌, ℕ, ◌+◌, ◌-◌, ◌*◌, ◌^◌, ◌<◌, ◌≤◌, List, ◌++◌, length, flat_map}
use Rattle.std.specs.Prelude.{nat_lt, ℤ, All, IsTrue, FitsSigned, Ok, Contains, codes}
use Rattle.std.specs.Int.{w32}
use Rattle.wf_model.specs.declared.header.Header.{Header}
use Rattle.wf_model.specs.declared.plan.Plan.{Plan}
use Rattle.wf_model.specs.Bytes.{slab_bytes, char_bytes, header_bytes}
use Rattle.wf_model.specs.CdfRead.{header_at, slab_at, chars_at}
use Rattle.wf_model.specs.Dates.{is_stamp}
use Rattle.wf_model.specs.Headers.{file_header, placed}
use Rattle.wf_model.specs.InputOf.{shape_of}
use Rattle.wf_model.specs.Letters.{Text}
use Rattle.wf_model.specs.Script.{restart_stream}
use Rattle.wf_model.specs.Sizes.{product, record_size}
use Rattle.wf_model.specs.Sound.{IsDomain, IsRangedPlan, FilesFit}
use Rattle.wf_model.specs.Streams.{stream_levels, variable_name}
use Rattle.wf_cdf_laws.specs.FileNames.{HasFileDims, HasFileVariables}

-- the header of a file with so many records
abbrev pub header_with : Plan → ℕ → ℕ → Text → ℕ → ℕ → Header
header_with plan d stream start steps records =
    record (placed (file_header plan d stream start steps)) { numrecs = records }

-- a file of a stream of a domain: names tell its dimensions apart, and it tells a start
pub record IsFile (plan : Plan) (d stream : ℕ) (start : Text) : Type 0 where
  pub ranged : IsRangedPlan plan
  pub fits : FilesFit plan
  pub domain : IsDomain plan d
  pub held : stream ≤ restart_stream
  pub dims : HasFileDims plan d stream
  pub stamp : IsTrue (is_stamp start)

-- its header is read again, whatever follows it
abbrev pub FileHeadersAreReadAgain : Type 0
FileHeadersAreReadAgain =
    (plan : Plan) (d stream steps records : ℕ) (start : Text) (rest : List ℕ) →
    IsFile plan d stream start → records < 2 ^ 32 - 1 →
    let h = header_with plan d stream start steps records in
    header_at (header_bytes h ++ rest) ≡ Ok h

-- the bytes of a frame: its time, padded where it does not stand alone, and the numbers of each
-- level
abbrev pub frame_bytes : Plan → ℕ → Text → (ℕ → List ℤ) → List ℕ
frame_bytes plan stream time values =
    char_bytes (nat_lt 0 (length (stream_levels plan stream))) time
    ++ flat_map (λ f. slab_bytes (values f)) (stream_levels plan stream)

-- what a frame shows: each level has as many numbers as in file shape, of 32 bits
pub record IsShown (plan : Plan) (d stream : ℕ) (time : Text) (values : ℕ → List ℤ) : Type 0 where
  pub chars : length time ≡ 19
  pub shaped : (f : ℕ) → Contains (stream_levels plan stream) f →
      product (shape_of plan d f) ≡ length (values f)
  pub fits : (f : ℕ) → Contains (stream_levels plan stream) f → All (FitsSigned w32) (values f)

-- the time and the numbers of each level are read of a record
pub record IsFrameRead (plan : Plan) (d stream : ℕ) (h : Header) (bytes : List ℕ) (rec : ℕ)
    (time : Text) (values : ℕ → List ℤ) : Type 0 where
  pub times : chars_at bytes h (codes "Times") 19 rec ≡ Ok time
  pub levels : (f : ℕ) → Contains (stream_levels plan stream) f →
      slab_at bytes h (variable_name plan stream f) (shape_of plan d f) rec ≡ Ok (values f)

-- so it is of a frame that stands behind the header and the records before it, whatever follows it
abbrev pub FramesAreReadAgain : Type 0
FramesAreReadAgain =
    (plan : Plan) (d stream steps records rec : ℕ) (start time : Text) (values : ℕ → List ℤ)
    (front rest : List ℕ) →
    IsFile plan d stream start → HasFileVariables plan stream → IsShown plan d stream time values →
    rec < records →
    let h = header_with plan d stream start steps records in
    length front ≡ length (header_bytes h) + rec * record_size h →
    IsFrameRead plan d stream h (front ++ (frame_bytes plan stream time values ++ rest)) rec
    time values
