-- The frames that a writer gets, and what they come to.
use Rattle.std.proofs.Common.{◌≡◌, ℕ, zero, suc, ◌+◌, ◌<◌, ◌≤◌, Bool, true, false, cond, List, [], ◌∷◌, ◌++◌, length, map, take, get_or, Some, refl, sym, ap, ◌∙◌, arith, length-append}
use Rattle.std.specs.Prelude.{slice_get, filter, sum, sum_by, nat_lt}
use Rattle.std.proofs.lemmas.List.{take_more, length-map, length-take-le}
use Rattle.std.proofs.lemmas.List.Sums.{sum_by-append, sum_by-cons}
use Rattle.std.proofs.lemmas.List.Elements.{filter-append}
use Rattle.wf_model.specs.declared.frame.Frame.{Frame}
use Rattle.wf_model.specs.declared.layout.Layout.{Layout}
use Rattle.wf_model.specs.Agreement.{IsUpToOverflow}
use Rattle.wf_model.specs.Bytes.{char_bytes, slab_bytes}
use Rattle.wf_model.specs.Frames.{Slab, frame_of, frames_of, no_frame, slab_of, variables_of}
use Rattle.wf_model.specs.Grids.{Grids}
use Rattle.wf_model.specs.Held.{grids_in_patches, numbers_at, slab_numbers}
use Rattle.wf_model.specs.Outcome.{RunData, grids_at}
use Rattle.wf_model.specs.SoundRun.{IsSoundRun}
use Rattle.wf_model.specs.Streams.{file_list, one_if}
use Rattle.wf_model.specs.Writes.{record_of}
use Rattle.wf_stream.specs.StoreWrites.{IsInRange, part_of, record_parts, with_bytes, with_frame, with_parts}
use Rattle.wf_stream.specs.Writing.{label, labels, totals_of}
use Rattle.wf_stream.specs.declared.writer.Totals.{Totals}
use Rattle.wf_stream.proofs.FileNames.{file_taken}
use Rattle.wf_stream.proofs.FrameLaws.{frame_entry, frame_number}
use Rattle.wf_stream.proofs.SoundFrames.{frame_record-ranged, known_frame}

-- an item that is there is the one at its place
read_at : {X : Type 0} (xs : List X) (n : ℕ) (x d : X) → slice_get xs n ≡ Some x → get_or xs n d ≡ x
read_at [] n x d h = absurd (cc h)
read_at (y ∷ ys) zero x d h = cc h
read_at (y ∷ ys) (suc n) x d h = read_at ys n x d h

within : {X : Type 0} (xs : List X) (n : ℕ) (x : X) → slice_get xs n ≡ Some x → n < length xs
within [] n x h = absurd (cc h)
within (y ∷ ys) zero x h = omega arith
within (y ∷ ys) (suc n) x h = omega (arith, within ys n x h)

module _ (r : RunData) (n : ℕ) (frame : Frame) (is : slice_get (frames_of r) n ≡ Some frame) where
  -- its numbers are within their ranges
  pub in_range : IsSoundRun r → IsInRange r frame
  in_range run =
      let known = known_frame r run.sound n frame is in
      record { place = (frame_entry r n frame is).within; domain = known.domain; stream = known.stream; rec = frame_record-ranged r run.sound n frame (run.ranged).domains is; file = file_taken r run n frame is }

  -- ---- its slabs

  named : frame_of r frame.number ≡ frame
  unfolding frame_of
  named = ap (λ (k : ℕ). get_or (frames_of r) k no_frame) (frame_number r n frame is) ∙ read_at (frames_of r) n frame no_frame is

  module _ (layout : Layout) (reached : IsUpToOverflow r frame.place) where
    -- up to the first overflow these are the grids' numbers
    numbers_are : numbers_at r layout frame.place ≡ grids_at r frame.place
    unfolding numbers_at
    numbers_are = λ i. cond (reached.before i) (grids_in_patches r layout frame.place) (grids_at r frame.place)

    bytes_are : (f : ℕ) → slab_bytes (slab_numbers r layout frame.number f) ≡ slab_bytes (slab_of r frame f)
    unfolding slab_numbers
    bytes_are f =
        (λ i. slab_bytes (file_list r.plan (named i).domain f (numbers_at r layout (named i).place)))
        ∙ ap (λ (g : Grids). slab_bytes (file_list r.plan frame.domain f g)) numbers_are

    of_labels : (slabs : List Slab) → map (part_of r layout) slabs ≡ map (λ (x : ℕ × ℕ). slab_bytes (slab_numbers r layout x.0 x.1)) (map label slabs)
    unfolding part_of
    of_labels [] = refl
    of_labels (s ∷ ss) = ap (λ (ps : List (List ℕ)). slab_bytes (slab_numbers r layout s.frame s.field) ∷ ps) (of_labels ss)

    of_levels : (fs : List ℕ) → map (λ (x : ℕ × ℕ). slab_bytes (slab_numbers r layout x.0 x.1)) (map (λ (f : ℕ). (frame.number, f)) fs) ≡ map (λ (f : ℕ). slab_bytes (slab_of r frame f)) fs
    of_levels [] = refl
    of_levels (f ∷ fs) = λ i. bytes_are f i ∷ of_levels fs i

    -- its parts are the bytes of its record
    pub parts_are : (slabs : List Slab) → map label slabs ≡ labels r frame → record_parts r layout frame.time slabs ≡ record_of r frame
    unfolding record_of
    parts_are slabs labelled =
        let count : length slabs ≡ length (variables_of r frame) = sym (length-map slabs label) ∙ ap length labelled ∙ length-map (variables_of r frame) (λ (f : ℕ). (frame.number, f)) in
        let parts : map (part_of r layout) slabs ≡ map (λ (f : ℕ). slab_bytes (slab_of r frame f)) (variables_of r frame)
        = of_labels slabs ∙ ap (map (λ (x : ℕ × ℕ). slab_bytes (slab_numbers r layout x.0 x.1))) labelled ∙ of_levels (variables_of r frame) in
        λ i. char_bytes (nat_lt 0 (count i)) frame.time ∷ parts i

-- ---- totals

-- of no frame
pub totals_none : (r : RunData) → ◌≡◌ {A = Totals} (record { files = 0; records = 0; bytes = 0; sum = 0 }) (totals_of r 0)
unfolding totals_of
totals_none r = refl

with_parts-sums : (t : Totals) (ps : List (List ℕ)) → with_parts t ps ≡ record { files = t.files; records = t.records; bytes = t.bytes + sum_by length ps; sum = t.sum + sum_by sum ps }
with_parts-sums t [] =
    let b : t.bytes ≡ t.bytes + 0 = omega arith in
    let s : t.sum ≡ t.sum + 0 = omega arith in
    λ i. record { files = t.files; records = t.records; bytes = b i; sum = s i }
with_parts-sums t (p ∷ ps) =
    let b : t.bytes + length p + sum_by length ps ≡ t.bytes + sum_by length (p ∷ ps) = omega (arith, sum_by-cons length p ps) in
    let s : t.sum + sum p + sum_by sum ps ≡ t.sum + sum_by sum (p ∷ ps) = omega (arith, sum_by-cons sum p ps) in
    with_parts-sums (with_bytes t p) ps ∙ (λ i. record { files = t.files; records = t.records; bytes = b i; sum = s i })

few : (frames : List Frame) → length (filter (λ (f : Frame). f.first) frames) ≤ length frames
few [] = omega arith
few (f ∷ fs) = one f.first (few fs)
  where
    one : (b : Bool) → length (filter (λ (f : Frame). f.first) fs) ≤ length fs → length (cond b (f ∷ filter (λ (f : Frame). f.first) fs) (filter (λ (f : Frame). f.first) fs)) ≤ length (f ∷ fs)
    one true h = omega arith
    one false h = omega arith

module _ (r : RunData) (n : ℕ) (frame : Frame) (is : slice_get (frames_of r) n ≡ Some frame) where
  more : take (n + 1) (frames_of r) ≡ take n (frames_of r) ++ frame ∷ []
  more = take_more (frames_of r) n no_frame (within (frames_of r) n frame is) ∙ ap (λ (f : Frame). take n (frames_of r) ++ f ∷ []) (read_at (frames_of r) n frame no_frame is)

  counted : length (take n (frames_of r)) ≡ n
  counted = let w = within (frames_of r) n frame is in length-take-le n (frames_of r) (omega arith)

  -- no more files than frames
  pub files_few : (t : Totals) → t ≡ totals_of r n → t.files ≤ frame.number
  unfolding totals_of
  files_few t are =
      let files : t.files ≡ length (filter (λ (f : Frame). f.first) (take n (frames_of r))) = ap (λ (u : Totals). u.files) are in
      omega (arith, few (take n (frames_of r)), counted, frame_number r n frame is)

  first_count : (b : Bool) (x : Frame) → length (cond b (x ∷ []) []) ≡ one_if b
  first_count true x = refl
  first_count false x = refl

  -- one frame more
  pub totals_next : (t u : Totals) → t ≡ totals_of r n → u ≡ with_frame r t frame → u ≡ totals_of r (n + 1)
  unfolding totals_of
  totals_next t u before next =
      let parts = record_of r frame in
      let files : length (filter (λ (f : Frame). f.first) (take n (frames_of r))) + one_if frame.first ≡ length (filter (λ (f : Frame). f.first) (take (n + 1) (frames_of r)))
      = omega (arith, ap (λ (fs : List Frame). length (filter (λ (f : Frame). f.first) fs)) more, ap length (filter-append (λ (f : Frame). f.first) (take n (frames_of r)) (frame ∷ [])), length-append (filter (λ (f : Frame). f.first) (take n (frames_of r))) (cond frame.first (frame ∷ []) []), first_count frame.first frame) in
      let records : frame.number + 1 ≡ length (take (n + 1) (frames_of r)) = omega (arith, ap length more, length-append (take n (frames_of r)) (frame ∷ []), counted, frame_number r n frame is) in
      let size : Frame → ℕ = λ f. sum_by length (record_of r f) in
      let weight : Frame → ℕ = λ f. sum_by sum (record_of r f) in
      let bytes : sum_by size (take n (frames_of r)) + size frame ≡ sum_by size (take (n + 1) (frames_of r))
      = omega (arith, ap (sum_by size) more, sum_by-append size (take n (frames_of r)) (frame ∷ []), sum_by-cons size frame []) in
      let sums : sum_by weight (take n (frames_of r)) + weight frame ≡ sum_by weight (take (n + 1) (frames_of r))
      = omega (arith, ap (sum_by weight) more, sum_by-append weight (take n (frames_of r)) (frame ∷ []), sum_by-cons weight frame []) in
      next ∙ ap (λ (v : Totals). with_frame r v frame) before
      ∙ (λ i. let v = with_parts-sums (totals_of r n) parts i in record { files = v.files + one_if frame.first; records = frame.number + 1; bytes = v.bytes; sum = v.sum })
      ∙ (λ i. record { files = files i; records = records i; bytes = bytes i; sum = sums i })

  -- as many records as frames
  pub records_next : (u : Totals) → u ≡ totals_of r (n + 1) → u.records ≡ n + 1
  unfolding totals_of
  records_next u are = ap (λ (v : Totals). v.records) are ∙ ap length more ∙ length-append (take n (frames_of r)) (frame ∷ []) ∙ ap (λ (k : ℕ). k + 1) counted
