-- What an emitted entry of the script gives: its frame, and how the frames go on behind it.
use Rattle.std.proofs.Common.{◌≡◌, ℕ, ◌+◌, ◌^◌, ◌<◌, ◌≤◌, List, ◌∷◌, length, drop, get_or, set, Some, ap, sym, ◌∙◌, subst, arith}
use Rattle.std.specs.Prelude.{slice_get}
use Rattle.std.proofs.lemmas.List.{get_or_default}
use Rattle.std.proofs.lemmas.Option.{slice_get_within}
use Rattle.wf_model.specs.declared.script.Act.TheVariants.{Emit}
use Rattle.wf_model.specs.declared.script.Entry.{Entry}
use Rattle.wf_model.specs.Frames.{frames_of, outputs_from}
use Rattle.wf_model.specs.Outcome.{RunData, script}
use Rattle.wf_model.specs.SoundRun.{IsSoundRun}
use Rattle.wf_stream.specs.declared.frames.Emitted.{Emitted}
use Rattle.wf_stream.specs.declared.frames.StreamFile.{StreamFile}
use Rattle.wf_stream.specs.FrameCounts.{output, file_with, frame_in, IsKnownOutput, no_file, file_place, IsUnderWay}
use Rattle.wf_stream.proofs.FrameSteps.{next_frame, under-more, count_below}
use Rattle.wf_stream.proofs.SoundFrames.{known_output, file_takes}

-- the place of the file that it joins
abbrev pub place_in : Emitted → ℕ
place_in e = file_place e.entry.domain e.stream

-- an entry of the script that is a frame is a known output
pub known_here : (r : RunData) (es : List Entry) (e : Emitted) → IsSoundRun r → es ≡ script r → slice_get es e.place ≡ Some e.entry → e.entry.act ≡ Emit e.stream → IsKnownOutput r.plan (output e)
known_here r es e sound is entry act = known_output r sound.sound e.place (output e) (ap (λ (xs : List Entry). slice_get xs e.place) (sym is) ∙ entry) act

-- its file is one of the table
pub file_within : (r : RunData) (number place : ℕ) (files : List StreamFile) (e : Emitted) → IsUnderWay r number place files → IsKnownOutput r.plan (output e) → place_in e < length files
file_within r number place files e under known = omega (arith, under.counted.count, known.domain, known.stream)

-- what comes next, with the file that it joins
pub record GoesOn (r : RunData) (number place : ℕ) (files : List StreamFile) (e : Emitted) (x : StreamFile) : Type 0 where
  pub room : x.count + 1 < 2 ^ 32
  pub numbers : number + 1 < 2 ^ 32
  pub places : e.place + 1 < 2 ^ 32
  pub frame : slice_get (frames_of r) number ≡ Some (frame_in r.plan number x (output e))
  pub under : IsUnderWay r (number + 1) (e.place + 1) (set files (place_in e) (file_with r.plan x (output e)))

pub goes_on : (r : RunData) (number place : ℕ) (files : List StreamFile) (es : List Entry) (e : Emitted) (x : StreamFile) → IsSoundRun r → IsUnderWay r number place files → es ≡ script r
    → outputs_from place (drop place es) ≡ output e ∷ outputs_from (e.place + 1) (drop (e.place + 1) es)
    → slice_get es e.place ≡ Some e.entry → e.entry.act ≡ Emit e.stream → place ≤ e.place → x ≡ get_or files (place_in e) x
    → GoesOn r number place files e x
goes_on r number place files es e x sound under is found entry act behind read =
    let known = known_here r es e sound is entry act in
    let some = (file_takes r.plan e.entry.domain e.stream (sound.ranged).domains known.domain known.stream).0 in
    let here : outputs_from place (drop place (script r)) ≡ output e ∷ outputs_from (e.place + 1) (drop (e.place + 1) (script r)) = subst (λ (xs : List Entry). outputs_from place (drop place xs) ≡ output e ∷ outputs_from (e.place + 1) (drop (e.place + 1) xs)) is found in
    let same : get_or files (place_in e) no_file ≡ x = get_or_default files (place_in e) no_file x (file_within r number place files e under known) ∙ sym read in
    let within : e.place < length (script r) = slice_get_within (script r) e.place e.entry (ap (λ (xs : List Entry). slice_get xs e.place) (sym is) ∙ entry) in
    let count = count_below r number place files under (output e) e.place here known some in
    record {
      room = omega (arith, count, ap (λ (y : StreamFile). y.count) same, under.within, under.short, behind, within);
      numbers = omega (arith, under.within, under.short, behind, within);
      places = omega (arith, under.short, within);
      frame = next_frame r number place files under (output e) e.place here known some ∙ ap (λ (y : StreamFile). Some (frame_in r.plan number y (output e))) same;
      under = subst (λ (y : StreamFile). IsUnderWay r (number + 1) (e.place + 1) (set files (place_in e) (file_with r.plan y (output e)))) same (under-more r number place files under (output e) e.place here known some behind);
    }
