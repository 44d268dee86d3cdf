-- The store calls of the frames of a run, one frame after another, and how they end.
use Rattle.std.proofs.Common.{◌≡◌, inl, inr, ℕ, zero, suc, ◌+◌, ◌<◌, ◌≤◌, nat_lt, cond, Bool, true, List, [], ◌∷◌, ◌++◌, length, take, drop, Option, Some, None, Ok, Err, refl, sym, ap, subst, ◌∙◌, append-nil, arith}
use Rattle.std.specs.Prelude.{filter, flat_map, sum, sum_by, ℤ}
use Rattle.std.specs.List.{slice_get}
use Rattle.std.proofs.Math.Seq.{take-suc}
use Rattle.std.proofs.lemmas.Bool.{cases_lt, lt-ltb}
use Rattle.std.proofs.lemmas.List.{take-append-drop, take_all}
use Rattle.std.proofs.lemmas.Grind.{flat_map-append}
use Rattle.std.proofs.lemmas.Option.{slice_get_within, get_or_from_slice_get}
use Rattle.wf_io.specs.Files.{Rose}
use Rattle.wf_model.specs.declared.finished.CoreError.{CoreError}
use Rattle.wf_model.specs.declared.finished.CoreError.TheVariants as core
use Rattle.wf_model.specs.declared.finished.Finished.{Finished}
use Rattle.wf_model.specs.declared.frame.Frame.{Frame}
use Rattle.wf_model.specs.declared.point.Point.{Point}
use Rattle.wf_model.specs.Agreement.{IsUpToOverflow}
use Rattle.wf_model.specs.Failed.{Failed}
use Rattle.wf_model.specs.Files.{Files, StoreCall}
use Rattle.wf_model.specs.Frames.{frames_of, frames_written, up_to_overflow, no_frame}
use Rattle.wf_model.specs.Letters.{Text}
use Rattle.wf_model.specs.Outcome.{RunData, script, outcome_of, entry_at, grids_at}
use Rattle.wf_model.specs.StoreRuns.{Ran, Stopped}
use Rattle.wf_model.specs.Writes.{frame_calls, writes_of, record_of, summary_of}
use Rattle.wf_model.proofs.StoreRunLaws.{ran_none, ran_then, stopped_whole, stopped_left, stopped_right, failed_left, failed_right}
use Rattle.wf_laws.proofs.FirstOverflow.{first_is, takes_on}
use Rattle.wf_stream.specs.declared.writer.Totals.{Totals}
use Rattle.wf_stream.specs.Writing.{totals_of}
use Rattle.wf_stream.proofs.FrameLaws.{frame_entry, frames_before}
use Rattle.wf_grid.specs.FrameEnds.{calls_of, FrameEnds}
use Rattle.wf_grid.specs.Held.{point_at_end}
use Rattle.wf_grid.specs.Levels.{lists_of}
use Rattle.wf_grid.specs.Reached.{IsReached, OverflowsIn, StandBefore, place_of}
use Rattle.wf_grid.specs.RunEnds.{EndsBy, EndsByOverflow, finished_of}
use Rattle.wf_grid.proofs.Reaching.{place_from, up_more, emit_over, emit_after}

-- ---- lists

-- the first of a list that all pass, and of the rest those that pass
filter-front : {A : Type 0} (test : A → Bool) (xs : List A) (n : ℕ) → ((i : ℕ) (x : A) → i < n → slice_get xs i ≡ Some x → test x ≡ true) → filter test xs ≡ take n xs ++ filter test (drop n xs)
filter-front test [] zero passes = refl
filter-front test [] (suc n) passes = refl
filter-front test (x ∷ xs) zero passes = refl
filter-front test (x ∷ xs) (suc n) passes =
    ap (λ (b : Bool). cond b (x ∷ filter test xs) (filter test xs)) (passes 0 x (omega arith) refl)
    ∙ ap (λ (ys : List _). x ∷ ys) (filter-front test xs n (λ i y l is. passes (suc i) y (omega (arith, l)) is))

-- nothing stands at the end of a list
past_end : {A : Type 0} (xs : List A) (n : ℕ) → slice_get xs n ≡ None → length xs ≤ n
past_end [] n h = omega arith
past_end (x ∷ xs) zero h = absurd (cc h)
past_end (x ∷ xs) (suc n) h = omega (arith, past_end xs n h)

-- ---- frame after frame

-- the calls of one frame more
pub calls_more : (r : RunData) (n : ℕ) (f : Frame) → slice_get (frames_of r) n ≡ Some f → calls_of r (n + 1) ≡ calls_of r n ++ frame_calls r f
unfolding calls_of
calls_more r n f is =
    let on : n + 1 ≡ suc n = omega arith in
    ap (λ (k : ℕ). flat_map (frame_calls r) (take k (frames_of r))) on
    ∙ ap (flat_map (frame_calls r)) (take-suc (frames_of r) n no_frame (slice_get_within (frames_of r) n f is) ∙ ap (λ (g : Frame). take n (frames_of r) ++ g ∷ []) (get_or_from_slice_get (frames_of r) n f no_frame is))
    ∙ flat_map-append (frame_calls r) (take n (frames_of r)) (f ∷ [])
    ∙ ap (λ (cs : List StoreCall). flat_map (frame_calls r) (take n (frames_of r)) ++ cs) (append-nil (frame_calls r f))

pub calls_none : (r : RunData) → calls_of r 0 ≡ []
unfolding calls_of
calls_none r = refl

pub ran_more : (r : RunData) (n : ℕ) (f : Frame) (a b d : Option Files) → slice_get (frames_of r) n ≡ Some f → Ran (calls_of r n) a b → Ran (frame_calls r f) b d → Ran (calls_of r (n + 1)) a d
ran_more r n f a b d is p q = subst (λ (cs : List StoreCall). Ran cs a d) (sym (calls_more r n f is)) (ran_then (calls_of r n) (frame_calls r f) a b d p q)

pub ran_nothing : (r : RunData) (a : Option Files) → Ran (calls_of r 0) a a
ran_nothing r a = subst (λ (cs : List StoreCall). Ran cs a a) (sym (calls_none r)) (ran_none a)

-- before the first frame
pub stand_none : (r : RunData) (p : ℕ) → StandBefore r 0 p
stand_none r p = record { few = omega arith; each = λ k f h is. absurd (omega (arith, h)) }

-- the place behind a frame is reached, and one frame more stands before it
module _ (r : RunData) (n p : ℕ) (f : Frame) (is : slice_get (frames_of r) n ≡ Some f) where
  pub stand_more : StandBefore r n p → p ≤ f.place → StandBefore r (n + 1) (f.place + 1)
  stand_more s le = record {
    few = omega (arith, slice_get_within (frames_of r) n f is);
    each = λ k g below at. elim (cases_lt k n) [
      | inl l ↦ omega (arith, s.each k g l at, le)
      | inr l ↦
          let here : k ≡ n = omega (arith, l, below) in
          let this : slice_get (frames_of r) n ≡ Some g = subst (λ (i : ℕ). slice_get (frames_of r) i ≡ Some g) here at in
          let same : g ≡ f = cc in
          omega (arith, ap (λ (x : Frame). x.place) same)
    ];
  }

  pub frame_up : IsUpToOverflow r f.place → IsUpToOverflow r (f.place + 1)
  frame_up up = let e = frame_entry r n f is in up_more r f.place up e.within (emit_over r (entry_at r f.place) f.stream e.act (grids_at r f.place))

  pub frame_reached : (lists : List (List ℤ)) → IsReached r f.place lists → IsReached r (f.place + 1) lists
  frame_reached lists reached =
      let e = frame_entry r n f is in
      record { up = frame_up reached.up; same = reached.same ∙ ap (lists_of r.plan 1) (sym (takes_on r f.place e.within ∙ emit_after r (entry_at r f.place) f.stream e.act (grids_at r f.place))) }

-- ---- what is written of the run

-- the calls of frames before a place that the run reaches are first ones of the run
pub record AreFirst (r : RunData) (n : ℕ) : Type 0 where
  pub rest : List StoreCall
  pub is : writes_of r ≡ calls_of r n ++ rest

first_of : (r : RunData) (n : ℕ) (others : List Frame) → frames_written r ≡ take n (frames_of r) ++ others → AreFirst r n
unfolding writes_of calls_of
first_of r n others e = record { rest = flat_map (frame_calls r) others; is = ap (flat_map (frame_calls r)) e ∙ flat_map-append (frame_calls r) (take n (frames_of r)) others }

pub are_first : (r : RunData) (n p : ℕ) → IsUpToOverflow r p → StandBefore r n p → AreFirst r n
are_first r n p up s =
    (elim (outcome_of r) as (λ o. outcome_of r ≡ o → AreFirst r n) [
      | Ok g ↦ λ q. first_of r n (drop n (frames_of r)) (ap (λ o. up_to_overflow o (frames_of r)) q ∙ sym (take-append-drop n (frames_of r)))
      | Err o ↦ λ q. first_of r n (filter (λ (f : Frame). nat_lt f.place o.place) (drop n (frames_of r)))
          (ap (λ o. up_to_overflow o (frames_of r)) q ∙ filter-front (λ (f : Frame). nat_lt f.place o.place) (frames_of r) n (λ k f l is. lt-ltb f.place o.place (omega (arith, s.each k f l is, place_from r p up o q))))
    ]) refl

module _ (r : RunData) (n : ℕ) (a b : Option Files) (ran : Ran (calls_of r n) a b) where
  -- where the run ends after n frames, for want of memory
  pub ends_by_memory : AreFirst r n → Stopped (writes_of r) a b
  ends_by_memory t = subst (λ (cs : List StoreCall). Stopped cs a b) (sym t.is) (stopped_left (calls_of r n) t.rest a b (stopped_whole (calls_of r n) a b ran))

  -- or in the writing of the next
  module _ (f : Frame) (is : slice_get (frames_of r) n ≡ Some f) (next : AreFirst r (n + 1)) (d : Option Files) where
    written_next : writes_of r ≡ (calls_of r n ++ frame_calls r f) ++ next.rest
    written_next = next.is ∙ ap (λ (cs : List StoreCall). cs ++ next.rest) (calls_more r n f is)

    pub stopped_next : Stopped (frame_calls r f) b d → Stopped (writes_of r) a d
    stopped_next h =
        subst (λ (cs : List StoreCall). Stopped cs a d) (sym written_next)
        (stopped_left (calls_of r n ++ frame_calls r f) next.rest a d (stopped_right (calls_of r n) (frame_calls r f) a b d ran h))

    pub failed_next : (name : Text) → Failed (frame_calls r f) name b d → Failed (writes_of r) name a d
    failed_next name h =
        subst (λ (cs : List StoreCall). Failed cs name a d) (sym written_next)
        (failed_left (calls_of r n ++ frame_calls r f) next.rest name a d (failed_right (calls_of r n) (frame_calls r f) name a b d ran h))

    rose_more : (x y z : ℕ) → x ≤ y → Rose y z → Rose x z
    rose_more x y z h rose small = omega (arith, h, rose small)

    -- whatever the error is
    pub ends_next : (x y z : ℕ) (failed : Text) (e : CoreError) → x ≤ y → FrameEnds r f b d y z failed e → EndsBy r a d x z failed e
    ends_next x y z failed (core.Overflow point) h ends = absurd ends
    ends_next x y z failed (core.Store name) h ends = record { counted = rose_more x y z h ends.counted; last = ends.last; files = failed_next name ends.files }
    ends_next x y z failed core.Memory h ends = stopped_next ends

-- ---- ends

-- exactly n frames are written
calls_written : (r : RunData) (n : ℕ) → frames_written r ≡ take n (frames_of r) → calls_of r n ≡ writes_of r
unfolding writes_of calls_of
calls_written r n e = ap (flat_map (frame_calls r)) (sym e)

ran_written : (r : RunData) (n : ℕ) (a b : Option Files) → frames_written r ≡ take n (frames_of r) → Ran (calls_of r n) a b → Ran (writes_of r) a b
ran_written r n a b e ran = subst (λ (cs : List StoreCall). Ran cs a b) (calls_written r n e) ran

-- the first overflow, between the last frame and the next
pub ends_by_overflow : (r : RunData) (n from to : ℕ) (next : Option Frame) (point : Point) (a b : Option Files) → slice_get (frames_of r) n ≡ next → to ≡ place_of r next → StandBefore r n from → OverflowsIn r from to point → Ran (calls_of r n) a b → EndsByOverflow r a b point
ends_by_overflow r n from to next point a b is place s o ran = record {
  first = ap point_at_end o.first;
  written = ran_written r n a b written ran;
}
  where
    behind : (f : Frame) → slice_get (frames_of r) n ≡ Some f → o.place ≤ f.place
    behind f at = let same : next ≡ Some f = sym is ∙ at in omega (arith, o.high, place, ap (place_of r) same)

    written : frames_written r ≡ take n (frames_of r)
    written =
        ap (λ q. up_to_overflow q (frames_of r)) o.first
        ∙ frames_before r n o.place (λ k f l at. omega (arith, s.each k f l at, o.low)) behind

-- the end of the script
pub record IsEnded (r : RunData) (n : ℕ) : Type 0 where
  pub settled : point_at_end (outcome_of r) ≡ None
  pub written : frames_written r ≡ take n (frames_of r)

pub is_ended : (r : RunData) (n : ℕ) → slice_get (frames_of r) n ≡ None → IsUpToOverflow r (length (script r)) → IsEnded r n
is_ended r n none up =
    (elim (outcome_of r) as (λ o. outcome_of r ≡ o → IsEnded r n) [
      | Ok g ↦ λ q. record { settled = ap point_at_end q; written = ap (λ o. up_to_overflow o (frames_of r)) q ∙ sym (take_all n (frames_of r) (past_end (frames_of r) n none)) }
      | Err o ↦ λ q. absurd (omega (arith, place_from r (length (script r)) up o q, (first_is r o q).within))
    ]) refl

pub ended_ran : (r : RunData) (n : ℕ) (a b : Option Files) → IsEnded r n → Ran (calls_of r n) a b → Ran (writes_of r) a b
ended_ran r n a b e ran = ran_written r n a b e.written ran

-- what is told of the whole run
ended_told : (r : RunData) (n : ℕ) (t : Totals) → IsEnded r n → t ≡ totals_of r n → ◌≡◌ {A = Finished} (record { files = t.files; records = t.records; bytes = t.bytes; sum = t.sum; memories = [] }) (finished_of (summary_of r))
unfolding totals_of summary_of
ended_told r n t e is =
    (λ i. record { files = (is i).files; records = (is i).records; bytes = (is i).bytes; sum = (is i).sum; memories = [] })
    ∙ (λ i. let fs : List Frame = sym e.written i in
    record { files = length (filter (λ (frame : Frame). frame.first) fs); records = length fs; bytes = sum_by (λ frame. sum_by length (record_of r frame)) fs; sum = sum_by (λ frame. sum_by sum (record_of r frame)) fs; memories = [] })

pub told_as : (r : RunData) (n : ℕ) (t : Totals) (done : Finished) → IsEnded r n → t ≡ totals_of r n → done ≡ record { files = t.files; records = t.records; bytes = t.bytes; sum = t.sum; memories = [] } → done ≡ finished_of (summary_of r)
told_as r n t done e is h = h ∙ ended_told r n t e is
