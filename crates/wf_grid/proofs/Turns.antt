-- One turn of the loop over the frames of a run: what it keeps, and where it ends.
use Rattle.std.proofs.Common.{◌≡◌, ℕ, ◌+◌, ◌<◌, ◌≤◌, List, length, Option, Some, None, sym, ap, subst, ◌∙◌, arith}
use Rattle.std.specs.Prelude.{ℤ}
use Rattle.std.specs.List.{slice_get}
use Rattle.std.proofs.lemmas.Option.{slice_get_within}
use Rattle.wf_model.specs.declared.finished.CoreError.{CoreError}
use Rattle.wf_model.specs.declared.frame.Frame.{Frame}
use Rattle.wf_model.specs.declared.point.Point.{Point}
use Rattle.wf_model.specs.Agreement.{IsUpToOverflow}
use Rattle.wf_model.specs.Files.{Files}
use Rattle.wf_model.specs.Frames.{frames_of}
use Rattle.wf_model.specs.Letters.{Text}
use Rattle.wf_model.specs.Outcome.{RunData, script}
use Rattle.wf_model.specs.StoreRuns.{Ran, Stopped}
use Rattle.wf_model.specs.Writes.{frame_calls, writes_of}
use Rattle.wf_stream.specs.Writing.{HasFile, next_number}
use Rattle.wf_stream.proofs.FrameLaws.{frame_entry, frame_number, places_ascend}
use Rattle.wf_grid.specs.FrameEnds.{calls_of, HaveFiles, FrameEnds}
use Rattle.wf_grid.specs.Held.{first_lists}
use Rattle.wf_grid.specs.Reached.{IsSteppable, IsReached, OverflowsIn, StandBefore, place_of}
use Rattle.wf_grid.specs.RunEnds.{EndsBy, EndsByOverflow}
use Rattle.wf_grid.proofs.FilesKept.{has_file, have_more}
use Rattle.wf_grid.proofs.FrameRuns.{ran_more, ran_nothing, stand_none, stand_more, frame_up, frame_reached, are_first, ends_by_memory, ends_next, ends_by_overflow, IsEnded, is_ended}
use Rattle.wf_grid.proofs.Reaching.{reached_none}

-- n frames are written, and the run has come to a place before the next
pub record Going (r : RunData) (n p : ℕ) (lists : List (List ℤ)) (start now : Option Files) : Type 0 where
  pub reached : IsReached r p lists
  pub before : StandBefore r n p
  pub behind : (f : Frame) → slice_get (frames_of r) n ≡ Some f → p ≤ f.place
  pub ran : Ran (calls_of r n) start now
  pub there : (m : Files) → now ≡ Some m → HaveFiles r n m

-- before the first frame
pub going_none : (r : RunData) (steppable : IsSteppable r) (lists : List (List ℤ)) (a : Option Files) → lists ≡ first_lists r.initial → (n : ℕ) → n ≡ 0 → Going r n 0 lists a a
going_none r steppable lists a begins n none =
    subst (λ (k : ℕ). Going r k 0 lists a a) (sym none) (record {
      reached = reached_none r steppable lists begins;
      before = stand_none r 0;
      behind = λ f is. omega arith;
      ran = ran_nothing r a;
      there = λ m e k f h is. absurd (omega (arith, h));
    })

module _ (r : RunData) (n p : ℕ) (lists : List (List ℤ)) (a b : Option Files) (g : Going r n p lists a b) where
  -- for want of memory
  pub memory_ends : Stopped (writes_of r) a b
  memory_ends = ends_by_memory r n a b g.ran (are_first r n p g.reached.up g.before)

  module _ (next : Option Frame) (is : next ≡ slice_get (frames_of r) n) (end : ℕ) (place : end ≡ place_of r next) where
    pub order : p ≤ end
    order = subst (λ (k : ℕ). p ≤ k) (sym place) (by next (sym is))
      where
        by : (o : Option Frame) → slice_get (frames_of r) n ≡ o → p ≤ place_of r o
        by None at = g.reached.up.within
        by (Some f) at = g.behind f at

    pub within : end ≤ length (script r)
    within = subst (λ (k : ℕ). k ≤ length (script r)) (sym place) (by next (sym is))
      where
        by : (o : Option Frame) → slice_get (frames_of r) n ≡ o → place_of r o ≤ length (script r)
        by None at = omega arith
        by (Some f) at = omega (arith, (frame_entry r n f at).within)

    pub overflow_ends : (point : Point) → OverflowsIn r p end point → EndsByOverflow r a b point
    overflow_ends point o = ends_by_overflow r n p end next point a b (sym is) place g.before o g.ran

    -- at the end of the script
    pub ended : next ≡ None → (new : List (List ℤ)) → IsReached r end new → IsEnded r n
    ended none new reached = is_ended r n (sym is ∙ none) (subst (IsUpToOverflow r) (place ∙ ap (place_of r) none) reached.up)

    -- at a frame
    module _ (f : Frame) (some : next ≡ Some f) where
      pub at : slice_get (frames_of r) n ≡ Some f
      at = sym is ∙ some

      pub its_place : end ≡ f.place
      its_place = place ∙ ap (place_of r) some

      pub its_number : f.number ≡ n
      its_number = frame_number r n f at

      pub by_number : slice_get (frames_of r) f.number ≡ Some f
      by_number = subst (λ (k : ℕ). slice_get (frames_of r) k ≡ Some f) (sym its_number) at

      pub its_file : (m : Files) → b ≡ Some m → HasFile f m
      its_file m e = has_file r n f m at (g.there m e)

      pub error_ends : (new : List (List ℤ)) → IsReached r end new → (d : Option Files) (x y z : ℕ) (failed : Text) (e : CoreError) → x ≤ y → FrameEnds r f b d y z failed e → EndsBy r a d x z failed e
      error_ends new reached d x y z failed e later ends =
          ends_next r n a b g.ran f at
          (are_first r (n + 1) (f.place + 1) (frame_up r n p f at (subst (IsUpToOverflow r) its_place reached.up)) (stand_more r n p f at g.before (g.behind f at))) d x y z failed e later ends

      pub going_on : (new : List (List ℤ)) → IsReached r end new → (d : Option Files) → Ran (frame_calls r f) b d → (k : ℕ) → k ≡ next_number n next → Going r k (end + 1) new a d
      going_on new reached d wrote k number =
          let one_more : n + 1 ≡ k = sym (number ∙ ap (next_number n) some) in
          let beyond : f.place + 1 ≡ end + 1 = ap (λ (q : ℕ). q + 1) (sym its_place) in
          subst (λ (q : ℕ). Going r k q new a d) beyond (subst (λ (m : ℕ). Going r m (f.place + 1) new a d) one_more (record {
            reached = frame_reached r n p f at new (subst (λ (q : ℕ). IsReached r q new) its_place reached);
            before = stand_more r n p f at g.before (g.behind f at);
            behind = λ h after. omega (arith, places_ascend r n (n + 1) f h at after (omega arith));
            ran = ran_more r n f a b d at g.ran wrote;
            there = have_more r n f b d at g.there wrote;
          }))

      pub fewer : (k : ℕ) → k ≡ next_number n next → (k ≡ n + 1) × (n < length (frames_of r))
      fewer k number = (number ∙ ap (next_number n) some, slice_get_within (frames_of r) n f at)
