-- The header of a frame's file.
use Rattle.std.proofs.Common.{◌≡◌, ℕ, ◌<◌, ◌≤◌, List, length, Result, Ok, Err, IfOk, sym, ap, ◌∙◌, subst, arith}
use Rattle.wf_model.specs.declared.frame.Frame.{Frame}
use Rattle.wf_model.specs.declared.header.Header.{Header}
use Rattle.wf_model.specs.declared.plan.Plan.{Plan}
use Rattle.wf_model.specs.Bytes.{header_bytes}
use Rattle.wf_model.specs.Counts.{file_records}
use Rattle.wf_model.specs.Headers.{file_header, placed}
use Rattle.wf_model.specs.Outcome.{RunData}
use Rattle.wf_model.specs.Plans.{begin_of}
use Rattle.wf_model.specs.Sizes.{file_size, most_bytes}
use Rattle.wf_model.specs.SoundRun.{IsSoundRun}
use Rattle.wf_model.specs.Writes.{header_of, steps_at}
use Rattle.wf_cdf.proofs.StreamSizes.{stamp_length, one_record_fits}
use Rattle.wf_stream.specs.StoreWrites.{IsInRange}

-- the header from its parts
pub header_is : (r : RunData) (frame : Frame) (plan : Plan) (start : List ℕ) (steps : ℕ) (h p : Header) → plan ≡ r.plan → start ≡ (begin_of (r.initial).begins frame.domain).start_text → steps ≡ steps_at r frame
    → h ≡ file_header plan frame.domain frame.stream start steps → p ≡ placed h → header_bytes p ≡ header_of r frame
header_is r frame plan start steps h p plan_is start_is steps_are header places =
    ap header_bytes places ∙ ap (λ (x : Header). header_bytes (placed x)) header ∙ (λ i. header_bytes (placed (file_header (plan_is i) frame.domain frame.stream (start_is i) (steps_are i))))

-- a header has its count of records
long : (h : Header) → 8 ≤ length (header_bytes h)
unfolding header_bytes
long h = omega arith

pub long_header : {X E : Type 0} (res : Result X E) (items : X → List ℕ) (h : Header) → IfOk res (λ v. items v ≡ header_bytes h) → IfOk res (λ v. 8 ≤ length (items v))
long_header (Ok x) items h is = omega (arith, long h, ap length is)
long_header (Err e) items h is = tt

-- a file with one record fits
pub header_fits : (r : RunData) (frame : Frame) (h : Header) (start : List ℕ) (steps : ℕ) → IsSoundRun r → IsInRange r frame → start ≡ (begin_of (r.initial).begins frame.domain).start_text
    → h ≡ file_header r.plan frame.domain frame.stream start steps → most_bytes h.version < file_size h 1 → ⊥
unfolding file_header
header_fits r frame h start steps run range start_is header long =
    let text : length start ≡ length (r.plan).start = ap length start_is ∙ stamp_length _ ((run.fitting).sound frame.domain range.domain).start_text ∙ sym (stamp_length (r.plan).start ((run.ranged).time).start) in
    let fits = one_record_fits r.plan frame.domain frame.stream start (r.plan).start steps 0 (file_records r.plan frame.domain frame.stream) (most_bytes (r.plan).version) text (run.files frame.domain frame.stream range.domain range.stream) in
    let past : most_bytes (r.plan).version < file_size (file_header r.plan frame.domain frame.stream start steps) 1 = subst (λ (x : Header). most_bytes x.version < file_size x 1) header long in
    omega arith
