-- A frame that is complete, or written, has the slabs of the run.
use Rattle.std.proofs.Common.{◌≡◌, inl, inr, ℕ, zero, suc, ◌+◌, ◌<◌, ◌≤◌, ◌==◌, nat_lt, cond, Bool, true, false, List, [], ◌∷◌, map, All, take, Option, Some, None, Ok, Err, refl, ap, sym, ◌∙◌, subst, arith}
use Rattle.std.specs.Prelude.{ℤ, slice_get, filter, find, count_by, Result, if◌then◌else◌}
use Rattle.std.specs.List.{list_any}
use Rattle.std.proofs.lemmas.Bool.{eqb-true, ltb-true, le-ltb}
use Rattle.std.proofs.lemmas.Option.{get_or_from_slice_get, slice_get_within}
use Rattle.std.proofs.lemmas.List.Sums.{sum_by-cons}
use Rattle.wf_model.specs.declared.layout.Layout.{Layout}
use Rattle.wf_model.specs.declared.frame.Frame.{Frame}
use Rattle.wf_model.specs.declared.event.Event.{Event}
use Rattle.wf_model.specs.declared.event.Event.TheVariants.{Step, Take, Stop, Gather, Write}
use Rattle.wf_model.specs.Grids.{Grids}
use Rattle.wf_model.specs.Streams.{file_list}
use Rattle.wf_model.specs.Outcome.{RunData, Overflow, script, outcome_of, grids_at}
use Rattle.wf_model.specs.Frames.{frames_of, frames_written, up_to_overflow, variables_of, slab_of, Slab}
use Rattle.wf_model.specs.Patches.{split_of, patches_of, own_box, cells_in}
use Rattle.wf_model.specs.Shapes.{grid_cell}
use Rattle.wf_model.specs.Core.{CoreState, Posted, begin_state}
use Rattle.wf_model.specs.Replay.{is_piece, is_complete, all_past, may_write, is_enabled, state_after_event, IsReachable}
use Rattle.wf_model.specs.Held.{stands_past, grids_in_patches, numbers_at, piece_numbers, slab_numbers}
use Rattle.wf_model.specs.Agreement.{IsAccepted, IsPatch}
use Rattle.wf_laws.proofs.Bools.{and_left, and_right, or_else, split_bool, equal_of}
use Rattle.wf_laws.proofs.Members.{In, In-list_any, In-filter_out, In-get_or, find-In, find-Some, All-In}
use Rattle.wf_core_laws.specs.Carried.{HasFrameNumbers}
use Rattle.wf_core_laws.specs.Patches.{IsDomainPatch}
use Rattle.wf_core_laws.specs.PieceCount.{has_posted, pieces_out}
use Rattle.wf_core_laws.proofs.Members.{Has, all-at, map-same}
use Rattle.wf_core_laws.proofs.PatchForms.{patch_has}
use Rattle.wf_core_laws.proofs.FrameLaws.{FrameAt, frame_here}
use Rattle.wf_core_laws.proofs.Places.{lt_or_le}
use Rattle.wf_core_laws.proofs.Replays.{reached}
use Rattle.wf_core_laws.proofs.PersistsQuilt.{Grown, grown, complete_grows}
use Rattle.wf_core_laws.proofs.HeldNumbers.{frame_is}
use Rattle.wf_core_laws.proofs.PiecesOnce.{each_piece_is_there_once}
use Rattle.wf_core_laws.proofs.Interleavings.{pieces_carry_their_numbers}
use Rattle.wf_core_laws.proofs.RunFrames.{frames_written_are_the_runs, full_lists_write_the_runs_frames}
use Rattle.wf_held_laws.specs.Gathered.{numbers_of, gathered_piece, gathered_slab, IsGathered, IsVariable, CompleteFramesHaveTheirPieces, CompleteFramesHaveTheirSlabs, FramesWrittenAreComplete, FramesWrittenHaveTheRunsSlabs, FramesWrittenHaveAllSlabs, FullListsGatherTheRunsSlabs}
use Rattle.wf_held_laws.proofs.OwnNumbers.{frame_domain}
use Rattle.wf_held_laws.proofs.SlabNumbers.{made_slab}

-- a variable of a frame with these numbers
abbrev slab_with : Frame → ℕ → List ℤ → Slab
slab_with frame f values = record { frame = frame.number; field = f; values = values }

-- how much an element counts
abbrev one_of : Bool → ℕ
one_of b = cond b 1 0

-- where one passes, the count is not 0
some-counted : {A : Type 0} (test : A → Bool) (xs : List A) → list_any test xs ≡ true → 1 ≤ count_by test xs
some-counted test [] h = absurd (cc (h))
some-counted test (x ∷ xs) h =
    let more : count_by test (x ∷ xs) ≡ one_of (test x) + count_by test xs = sum_by-cons (λ x. one_of (test x)) x xs in
    elim (split_bool (test x)) [
      | inl on ↦ let one : one_of (test x) ≡ 1 = ap one_of on in omega (arith, more, one)
      | inr off ↦
          let rest : list_any test xs ≡ true = or_else (test x) (list_any test xs) off h in
          omega (arith, more, some-counted test xs rest)
    ]

module _ (r : RunData) (layout : Layout) where
  -- the number of a frame is its place in the list
  number_is : (n : ℕ) (frame : Frame) → slice_get (frames_of r) n ≡ Some frame → frame.number ≡ n
  number_is n frame h = let fa : FrameAt (script r) 0 0 n frame = frame_here r n frame h in omega (arith, fa.number)

  -- a complete frame has a piece of each variable and patch
  has_piece : (s : CoreState) (n : ℕ) (frame : Frame) (f p : ℕ) → slice_get (frames_of r) n ≡ Some frame → is_complete r layout s frame ≡ true → Has (variables_of r frame) f → IsPatch layout p →
      list_any (is_piece n f p) s.gathered ≡ true
  has_piece s n frame f p h complete v hp =
      subst (λ (m : ℕ). list_any (is_piece m f p) s.gathered ≡ true) (number_is n frame h)
      (all-at _ (patches_of (split_of layout)) p (all-at _ (variables_of r frame) f complete v) (patch_has layout p hp))

  -- a piece that a look-up finds has its numbers
  found_numbers : (s : CoreState) (n f p : ℕ) (x : Posted) → All (HasFrameNumbers r layout) s.gathered → find (is_piece n f p) s.gathered ≡ Some x → x.values ≡ piece_numbers r layout n f p
  found_numbers s n f p x all is =
      let w = find-Some (is_piece n f p) x s.gathered is in
      let values : x.values ≡ piece_numbers r layout x.frame x.field x.patch = All-In (HasFrameNumbers r layout) x s.gathered all w.0 in
      let a : x.frame ≡ n = eqb-true x.frame n (and_left _ _ w.1) in
      let b : x.field ≡ f = eqb-true x.field f (and_left _ _ (and_right (x.frame == n) _ w.1)) in
      let c : x.patch ≡ p = eqb-true x.patch p (and_right (x.field == f) _ (and_right (x.frame == n) _ w.1)) in
      values ∙ (λ m. piece_numbers r layout (a m) (b m) (c m))

  -- of one piece that is there once and gathered, none is left
  once_gathered : (b : Bool) (out left in_it : ℕ) → out ≡ left + in_it → out ≡ (if b then 1 else 0) → 1 ≤ in_it → (in_it ≡ 1) × (left ≡ 0)
  once_gathered true out left in_it sum is some = (omega (arith, sum, is, some), omega (arith, sum, is, some))
  once_gathered false out left in_it sum is some = absurd (omega (arith, sum, is, some))

-- the law on pieces
pub complete_frames_have_their_pieces : CompleteFramesHaveTheirPieces
complete_frames_have_their_pieces r layout s n frame f p ok reach is complete v hp =
    let any : list_any (is_piece n f p) s.gathered ≡ true = has_piece r layout s n frame f p is complete v hp in
    let one = In-list_any (is_piece n f p) s.gathered any in
    let got = find-In (is_piece n f p) one.0 s.gathered one.1 one.2 in
    let all : All (HasFrameNumbers r layout) s.gathered = (pieces_carry_their_numbers r layout s ok reach).1 in
    let at : IsDomainPatch r.plan layout frame.domain p = record { domain = frame_domain r layout n frame ok is; patch = hp } in
    let out : pieces_out s n f p ≡ (if has_posted r s frame p then 1 else 0) = each_piece_is_there_once r layout s n frame f p reach is v at in
    let counts = once_gathered r layout (has_posted r s frame p) (pieces_out s n f p) (count_by (is_piece n f p) s.pieces) (count_by (is_piece n f p) s.gathered) refl out (some-counted (is_piece n f p) s.gathered any) in
    record { piece = got.0; found = got.1; numbers = found_numbers r layout s n f p got.0 all got.1; once = counts.0; none_left = counts.1 }

-- the slab of a complete frame, by the frame
complete_slab : (r : RunData) (layout : Layout) (s : CoreState) (n : ℕ) (frame : Frame) (f : ℕ) → IsAccepted r layout → IsReachable r layout s → slice_get (frames_of r) n ≡ Some frame →
    is_complete r layout s frame ≡ true → IsVariable r frame f → gathered_slab r layout s frame f ≡ file_list r.plan frame.domain f (numbers_at r layout frame.place)
unfolding piece_numbers
complete_slab r layout s n frame f ok reach is complete v =
    made_slab r.plan layout frame.domain f (numbers_at r layout frame.place) (gathered_piece s frame.number f) ok.laid (frame_domain r layout n frame ok is)
    (λ p hp.
    let g : IsGathered r layout s n f p = complete_frames_have_their_pieces r layout s n frame f p ok reach is complete v hp in
    ap (λ (m : ℕ). gathered_piece s m f p) (number_is r layout n frame is)
    ∙ ap numbers_of g.found
    ∙ g.numbers
    ∙ ap (λ (x : Frame). map (grid_cell r.plan x.domain (numbers_at r layout x.place)) (cells_in r.plan f (own_box r.plan (split_of layout) x.domain p f))) (frame_is r layout n frame is))

-- the law on slabs
pub complete_frames_have_their_slabs : CompleteFramesHaveTheirSlabs
unfolding slab_numbers
complete_frames_have_their_slabs r layout s n frame f ok reach is complete v =
    complete_slab r layout s n frame f ok reach is complete v
    ∙ ap (λ (x : Frame). file_list r.plan x.domain f (numbers_at r layout x.place)) (sym (frame_is r layout n frame is))

module _ (r : RunData) (layout : Layout) where
  -- each frame that is written is complete
  record AllComplete (s : CoreState) : Type 0 where
    pub each : (n : ℕ) (frame : Frame) → slice_get (frames_of r) n ≡ Some frame → n < s.written → is_complete r layout s frame ≡ true

  -- it stays so where more is gathered and no more is written
  stays : (s t : CoreState) → AllComplete s → Grown r layout s t → AllComplete t
  stays s t ok g = record { each = λ n frame is lt. complete_grows r layout s t frame g.gathered (ok.each n frame is (omega (arith, lt, g.written))) }

  -- the frame that is written is complete
  new_one : (s : CoreState) (w n : ℕ) (frame : Frame) (o : Option Frame) → w ≡ n → o ≡ Some frame → may_write r layout s o ≡ true → is_complete r layout s frame ≡ true
  new_one s w n frame None e is h = absurd (cc (is))
  new_one s w n frame (Some x) e is h =
      let same : x ≡ frame = cc (is) in
      subst (λ (y : Frame). is_complete r layout s y ≡ true) same (and_left (is_complete r layout s x) (all_past r layout s x.place) h)

  -- so a Write keeps that
  write_keeps : (s : CoreState) (w : ℕ) → AllComplete s → is_enabled r layout s (Write w) ≡ true → AllComplete (state_after_event r layout s (Write w))
  unfolding is_enabled state_after_event
  write_keeps s w ok on =
      let now : w ≡ s.written = equal_of w s.written (and_left (w == s.written) _ on) in
      let may : may_write r layout s (slice_get (frames_of r) w) ≡ true = and_right (w == s.written) _ on in
      record {
        each = λ n frame is lt. elim (lt_or_le n s.written) [
          | inl h ↦ ok.each n frame is h
          | inr h ↦
              let e : w ≡ n = omega (arith, now, h, lt) in
              new_one s w n frame (slice_get (frames_of r) w) e (ap (slice_get (frames_of r)) e ∙ is) may
        ];
      }

  -- and so does each other event
  keeps : (s : CoreState) (e : Event) → AllComplete s → is_enabled r layout s e ≡ true → AllComplete (state_after_event r layout s e)
  keeps s (Step d p) ok on = stays s _ ok (grown r layout s (Step d p) on tt)
  keeps s (Take d p) ok on = stays s _ ok (grown r layout s (Take d p) on tt)
  keeps s (Stop d p) ok on = stays s _ ok (grown r layout s (Stop d p) on tt)
  keeps s (Gather group server frame f p) ok on = stays s _ ok (grown r layout s (Gather group server frame f p) on tt)
  keeps s (Write w) ok on = write_keeps s w ok on

  -- at the begin none is written
  at_begin : AllComplete (begin_state r layout)
  unfolding begin_state
  at_begin = record { each = λ n frame is lt. absurd (omega (arith, lt)) }

-- the law on frames written
pub frames_written_are_complete : FramesWrittenAreComplete
frames_written_are_complete r layout s n frame reach is lt = (reached r layout (AllComplete r layout) (keeps r layout) (at_begin r layout) reach.0 s reach.1).each n frame is lt

-- an element of the first of a list is one of the list
get-take : {A : Type 0} (n i : ℕ) (xs : List A) → i < n → slice_get (take n xs) i ≡ slice_get xs i
get-take zero i xs h = absurd (omega (arith, h))
get-take (suc n) i [] h = refl
get-take (suc n) zero (x ∷ xs) h = refl
get-take (suc n) (suc i) (x ∷ xs) h = get-take n i xs (omega (arith, h))

-- and stands among those
get-taken : {A : Type 0} (n i : ℕ) (xs : List A) (x : A) → slice_get (take n xs) i ≡ Some x → (i < n) × (slice_get xs i ≡ Some x)
get-taken zero i xs x h = absurd (cc (h))
get-taken (suc n) i [] x h = absurd (cc (h))
get-taken (suc n) zero (y ∷ xs) x h = (omega arith, h)
get-taken (suc n) (suc i) (y ∷ xs) x h = let t = get-taken n i xs x h in (omega (arith, t.0), t.1)

-- a frame before the overflow does not stand past it
not_past : (o : Result Grids Overflow) (xs : List Frame) (i : ℕ) (f : Frame) → slice_get (up_to_overflow o xs) i ≡ Some f → stands_past f.place o ≡ false
not_past (Ok g) xs i f h = refl
not_past (Err o) xs i f h =
    let before : List Frame = filter (λ (frame : Frame). nat_lt frame.place o.place) xs in
    let here : In f before = subst (λ (g : Frame). In g before) (get_or_from_slice_get before i f f h) (In-get_or before i f (slice_get_within before i f h)) in
    let t = In-filter_out (λ (frame : Frame). nat_lt frame.place o.place) f xs here in
    let lt : f.place < o.place = ltb-true f.place o.place t.1 in
    le-ltb o.place f.place (omega (arith, lt))

-- so its numbers are the grids'
before_overflow : (r : RunData) (layout : Layout) (n : ℕ) (frame : Frame) → slice_get (frames_written r) n ≡ Some frame → numbers_at r layout frame.place ≡ grids_at r frame.place
unfolding numbers_at
before_overflow r layout n frame h =
    ap (λ b. if b then grids_in_patches r layout frame.place else grids_at r frame.place) (not_past (outcome_of r) (frames_of r) n frame h)

-- the law on the slabs of frames written
pub frames_written_have_the_runs_slabs : FramesWrittenHaveTheRunsSlabs
frames_written_have_the_runs_slabs r layout s n frame f ok reach is lt v =
    let first = frames_written_are_the_runs r layout s ok reach in
    let at : slice_get (frames_written r) n ≡ Some frame =
    sym (get-take s.written n (frames_written r) lt) ∙ ap (λ (xs : List Frame). slice_get xs n) (sym first.0) ∙ get-take s.written n (frames_of r) lt ∙ is in
    complete_slab r layout s n frame f ok reach is (frames_written_are_complete r layout s n frame reach is lt) v
    ∙ ap (λ (g : Grids). file_list r.plan frame.domain f g) (before_overflow r layout n frame at)

-- the law on all variables of frames written
pub frames_written_have_all_slabs : FramesWrittenHaveAllSlabs
frames_written_have_all_slabs r layout s n frame ok reach is lt =
    map-same (λ f. slab_with frame f (gathered_slab r layout s frame f)) (λ f. slab_with frame f (slab_of r frame f)) (variables_of r frame)
    (λ f v. ap (slab_with frame f) (frames_written_have_the_runs_slabs r layout s n frame f ok reach is lt v))

-- the law on full lists
pub full_lists_gather_the_runs_slabs : FullListsGatherTheRunsSlabs
full_lists_gather_the_runs_slabs r layout es n frame f ok full is v =
    let all : take (full.0).written (frames_of r) ≡ frames_written r = full_lists_write_the_runs_frames r layout es ok full in
    let t = get-taken (full.0).written n (frames_of r) frame (ap (λ (xs : List Frame). slice_get xs n) all ∙ is) in
    frames_written_have_the_runs_slabs r layout full.0 n frame f ok (es, full.1) t.1 t.0 v
