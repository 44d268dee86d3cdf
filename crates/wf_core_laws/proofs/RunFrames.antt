-- The frames that a state has written, among those of the run.
use Rattle.std.proofs.Common.{◌≡◌, inl, inr, ℕ, zero, suc, ◌<◌, ◌≤◌, nat_lt, cond, Bool, true, List, [], ◌∷◌, length, take, get_or, Some, Ok, Err, refl, ap, sym, ◌∙◌, subst, arith}
use Rattle.std.specs.Prelude.{slice_get, filter, Result}
use Rattle.std.proofs.lemmas.Bool.{lt-ltb}
use Rattle.std.proofs.lemmas.Option.{slice_get-get_or}
use Rattle.wf_model.specs.declared.layout.Layout.{Layout}
use Rattle.wf_model.specs.declared.frame.Frame.{Frame}
use Rattle.wf_model.specs.declared.event.Event.{Event}
use Rattle.wf_model.specs.Grids.{Grids}
use Rattle.wf_model.specs.Outcome.{RunData, Overflow, outcome_of}
use Rattle.wf_model.specs.Frames.{frames_of, frames_written, up_to_overflow, no_frame}
use Rattle.wf_model.specs.Core.{CoreState}
use Rattle.wf_model.specs.Replay.{IsFull, replay}
use Rattle.wf_model.specs.Agreement.{IsAccepted}
use Rattle.wf_core_laws.specs.Ends.{IsFinished}
use Rattle.wf_core_laws.specs.Stops.{IsFirstStop}
use Rattle.wf_core_laws.specs.EveryList.{FramesWrittenAreTheRuns, FullListsWriteTheRunsFrames}
use Rattle.wf_core_laws.proofs.Places.{lt_or_le}
use Rattle.wf_core_laws.proofs.Members.{not_both}
use Rattle.wf_core_laws.proofs.FrontLaws.{halves_before-rises}
use Rattle.wf_core_laws.proofs.Sane.{Sane}
use Rattle.wf_core_laws.proofs.Kept.{sane}
use Rattle.wf_core_laws.proofs.PatchForms.{there_of}
use Rattle.wf_core_laws.proofs.Pieces.{Pieces, pieces}
use Rattle.wf_core_laws.proofs.End.{end_of_run, written_before}
use Rattle.wf_core_laws.proofs.LeastStop.{NoStop, written_outcome, all_written}
use Rattle.wf_core_laws.proofs.FirstStop.{first_stop, no_stop_at_all}
use Rattle.wf_core_laws.proofs.ScriptLaws.{closed}
use Rattle.wf_core_laws.proofs.Interleavings.{quiet}

-- where the first elements pass, they are the first of those that pass
take-passing : {A : Type 0} (test : A → Bool) (xs : List A) (n : ℕ) → n ≤ length xs → ((i : ℕ) (x : A) → slice_get xs i ≡ Some x → i < n → test x ≡ true) → (take n xs ≡ take n (filter test xs)) × (n ≤ length (filter test xs))
take-passing test [] zero within pass = (refl, omega arith)
take-passing test [] (suc n) within pass = absurd (omega (arith, within))
take-passing test (x ∷ xs) zero within pass = (refl, omega arith)
take-passing test (x ∷ xs) (suc n) within pass =
    let rest = take-passing test xs n (omega (arith, within)) (λ i y is lt. pass (suc i) y is (omega (arith, lt))) in
    let here : test x ≡ true = pass 0 x refl (omega arith) in
    let more : suc n ≤ length (x ∷ filter test xs) = omega (arith, rest.1) in (
      ap (λ (ys : List _). x ∷ ys) rest.0 ∙ ap (λ (b : Bool). take (suc n) (cond b (x ∷ filter test xs) (filter test xs))) (sym here),
      subst (λ (b : Bool). suc n ≤ length (cond b (x ∷ filter test xs) (filter test xs))) (sym here) more,
    )

-- taking more than all takes all
take_whole : {A : Type 0} (xs : List A) (n : ℕ) → length xs ≤ n → take n xs ≡ xs
take_whole [] zero h = refl
take_whole [] (suc n) h = refl
take_whole (x ∷ xs) zero h = absurd (omega (arith, h))
take_whole (x ∷ xs) (suc n) h = ap (λ (ys : List _). x ∷ ys) (take_whole xs n (omega (arith, h)))

module _ (r : RunData) (layout : Layout) where
  -- no state has written a frame at the place where the front stops a patch, or past it
  written_early : (es : List Event) (s : CoreState) (place i : ℕ) (f : Frame) → replay r layout es ≡ Some s → IsFirstStop r layout place → i < s.written → slice_get (frames_of r) i ≡ Some f → f.place < place
  written_early es s place i f h first lt at =
      let ok : Sane r layout s = sane r layout es s h in
      let held : Pieces r layout s = pieces r layout es s h in
      let d = first.d in
      let p = first.p in
      elim (lt_or_le f.place place) [
        | inl w ↦ w
        | inr w ↦ absurd (not_both _ first.stops ((ok.placed d p).live (suc place)
            (omega (arith, held.written i f d p lt at (there_of r layout d p first.at), halves_before-rises r layout d (suc place) (suc f.place) (omega (arith, w))))))
      ]

  -- the frames written, by the outcome
  by_outcome : (ok : IsAccepted r layout) (es : List Event) (s : CoreState) (o : Result Grids Overflow) → replay r layout es ≡ Some s → outcome_of r ≡ o →
      (take s.written (frames_of r) ≡ take s.written (up_to_overflow o (frames_of r))) × (s.written ≤ length (up_to_overflow o (frames_of r)))
  by_outcome ok es s (Ok g) h out = (refl, (written_before r layout es s h).fits)
  by_outcome ok es s (Err o) h out =
      take-passing (λ (f : Frame). nat_lt f.place o.place) (frames_of r) s.written (written_before r layout es s h).fits
      (λ i f at lt. lt-ltb f.place o.place (written_early es s o.place i f h (first_stop r layout ok o out) lt at))

  -- and those of a full list
  full_by : (ok : IsAccepted r layout) (es : List Event) (f : IsFull r layout es) (o : Result Grids Overflow) → outcome_of r ≡ o → take (f.0).written (frames_of r) ≡ frames_written r
  full_by ok es f (Err o) out =
      written_outcome r layout f.0 o (sane r layout es f.0 f.1) (end_of_run r layout es f.0 (closed r (ok.sound).some) f.1 (quiet r layout f.0 f.2)) (written_before r layout es f.0 f.1) out (first_stop r layout ok o out)
  full_by ok es f (Ok g) out =
      let s = f.0 in
      let end : IsFinished r layout s = end_of_run r layout es s (closed r (ok.sound).some) f.1 (quiet r layout s f.2) in
      let none : NoStop r layout = no_stop_at_all r layout ok g out in
      let all : length (frames_of r) ≤ s.written = elim (lt_or_le s.written (length (frames_of r))) [
        | inr w ↦ w
        | inl w ↦ absurd (omega (arith, all_written r layout s s.written (get_or (frames_of r) s.written no_frame) (sane r layout es s f.1) end none (slice_get-get_or (frames_of r) s.written no_frame w)))
      ] in
      take_whole (frames_of r) s.written all ∙ ap (λ (o : Result Grids Overflow). up_to_overflow o (frames_of r)) (sym out)

-- the law on the frames of a state
pub frames_written_are_the_runs : FramesWrittenAreTheRuns
frames_written_are_the_runs r layout s ok h = by_outcome r layout ok h.0 s (outcome_of r) h.1 refl

-- the law on the frames of a full list
pub full_lists_write_the_runs_frames : FullListsWriteTheRunsFrames
full_lists_write_the_runs_frames r layout es ok f = full_by r layout ok es f (outcome_of r) refl
