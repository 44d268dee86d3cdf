-- The demo's store calls and its summary.
use Rattle.std.proofs.Common.{◌≡◌, ℕ, suc, ◌+◌, ◌*◌, ◌-◌, ◌<◌, ◌≤◌, Bool, false, List, [], ◌∷◌, ◌++◌, map, length, refl, sym, ap, ◌∙◌, subst, arith, add-one}
use Rattle.std.proofs.lemmas.List.FromFn.{length-map-range_with_len}
use Rattle.std.specs.Prelude.{flat_map, filter, sum, sum_by, ◌==◌, ℤ, pos, if◌then◌else◌}
use Rattle.std.specs.List.{range_with_len}
use Rattle.wf_model.specs.declared.demo.Demo.{Demo}
use Rattle.wf_model.specs.declared.frame.Frame.{Frame}
use Rattle.wf_model.specs.declared.script.Entry.{Entry}
use Rattle.wf_model.specs.Value.{Answers}
use Rattle.wf_model.specs.Plans.{domain_of, field_of, begin_of}
use Rattle.wf_model.specs.Calendar.{time_text}
use Rattle.wf_model.specs.Streams.{file_list, stream_levels}
use Rattle.wf_model.specs.Bytes.{four_bytes, slab_bytes, header_bytes}
use Rattle.wf_model.specs.Headers.{file_header, placed}
use Rattle.wf_model.specs.Files.{create, append, write_at}
use Rattle.wf_model.specs.Outcome.{RunData, entry_at, no_entry, grids_at}
use Rattle.wf_model.specs.Frames.{slab_of, frames_written}
use Rattle.wf_model.specs.Writes.{header_of, record_of, frame_calls, writes_of, summary_of}
use Rattle.wf_model.specs.DemoCase.{case_start, demo_plan}
use Rattle.wf_model.specs.Demo.{demo_value, demo_grid, demo_file, demo_header, demo_time, demo_frame, demo_frames, demo_calls, frame_sum, demo_summary}
use Rattle.wf_laws.proofs.Listing.{length-listed, listed-same}
use Rattle.wf_demo_laws.specs.DemoLaws.{demo_run}
use Rattle.wf_demo_laws.proofs.Parts.{flat_map-map_range, sum-map_range, sum-constant, filter-map_range_none}
use Rattle.wf_demo_laws.proofs.Grids.{frame_item, grid_at_frame}
use Rattle.wf_demo_laws.proofs.Frames.{frame_after, frames_of_demo}

-- a number takes four bytes
length-slab_bytes : (values : List ℤ) → length (slab_bytes values) ≡ 4 * length values
unfolding slab_bytes
length-slab_bytes [] = refl
length-slab_bytes (z ∷ zs) = omega (arith, length-slab_bytes zs)

-- a time text with its padding takes twenty
length-time : (n : ℕ) → length (demo_time n) ≡ 20
unfolding time_text
length-time n = refl

-- arithmetic of the summary
none_before : (a b : ℕ) → 0 + a + b ≡ a + b
none_before a b = omega arith

times_one_more : (n c : ℕ) → 0 + suc n * c ≡ (n + 1) * c
times_one_more n c = omega arith

not_first : (n : ℕ) → 1 ≤ n → (n == 0) ≡ false
not_first n h = grind arith

module _ (nx ny steps : ℕ) (m : Answers) where
  abbrev run : RunData
  run = demo_run nx ny steps m

  -- a frame's numbers, and its bytes
  slab_is : (n : ℕ) → n ≤ steps → slab_of run (frame_after n) 0 ≡ demo_grid nx ny n
  unfolding file_list domain_of field_of
  slab_is n h =
      let width : nx + 1 - 1 + 0 ≡ nx = omega arith in
      let height : ny + 1 - 1 + 0 ≡ ny = omega arith in
      rw (width, height)
      (listed-same 1 ny nx (λ k j i. grids_at run (3 * n) 1 0 k j i) (λ k j i. pos (demo_value nx ny n j i))
      (λ k j i a b c d e f. let one : 1 ≡ k = omega arith in subst (λ (l : ℕ). grids_at run (3 * n) 1 0 l j i ≡ pos (demo_value nx ny n j i)) one (grid_at_frame nx ny steps m n h j i c d e f)))

  record_is : (n : ℕ) → n ≤ steps → record_of run (frame_after n) ≡ demo_time n ∷ slab_bytes (demo_grid nx ny n) ∷ []
  unfolding record_of stream_levels field_of
  record_is n h = ap (λ (values : List ℤ). demo_time n ∷ slab_bytes values ∷ []) (slab_is n h)

  -- the file's header
  header_is : header_of run (frame_after 0) ≡ demo_header nx ny steps
  unfolding entry_at begin_of
  header_is = ap (λ (e : Entry). header_bytes (placed (file_header (demo_plan nx ny steps) 1 0 case_start e.step))) (frame_item nx ny steps m 0 (omega arith) no_entry)

  -- the calls of the first frame, and of the others
  first_calls : frame_calls run (frame_after 0) ≡ create demo_file ∷ append demo_file (demo_header nx ny steps) ∷ demo_frame nx ny 0
  unfolding frame_calls
  first_calls =
      let header = header_is in
      let record_now = record_is 0 (omega arith) in
      λ t. create demo_file ∷ append demo_file (header t) ∷ (map (append demo_file) (record_now t) ++ write_at demo_file 4 (four_bytes 1) ∷ [])

  later_calls : (n : ℕ) → 1 ≤ n → n < 1 + steps → frame_calls run (frame_after n) ≡ demo_frame nx ny n
  unfolding frame_calls
  later_calls n l h =
      let later = not_first n l in
      ap (λ (b : Bool). (if b then create demo_file ∷ append demo_file (header_of run (frame_after n)) ∷ [] else []) ++ map (append demo_file) (record_of run (frame_after n)) ++ write_at demo_file 4 (four_bytes (n + 1)) ∷ []) later
      ∙ (ap (λ (slabs : List (List ℕ)). map (append demo_file) slabs ++ write_at demo_file 4 (four_bytes (n + 1)) ∷ []) (record_is n (omega arith)))

  -- how many bytes a frame has, and their sum
  record_bytes : (n : ℕ) → n ≤ steps → sum_by length (record_of run (frame_after n)) ≡ 20 + 4 * (nx * ny)
  record_bytes n h =
      ap (sum_by length) (record_is n h)
      ∙ omega (arith, length-time n, length-slab_bytes (demo_grid nx ny n), length-listed 1 ny nx (λ k j i. pos (demo_value nx ny n j i)))

  record_sum : (n : ℕ) → n ≤ steps → sum_by sum (record_of run (frame_after n)) ≡ frame_sum nx ny n
  record_sum n h = ap (sum_by sum) (record_is n h) ∙ none_before (sum (demo_time n)) (sum (slab_bytes (demo_grid nx ny n)))

  module _ (few : steps < 1000) where
    -- all calls, and the parts of the summary
    calls_of_run : writes_of run ≡ create demo_file ∷ append demo_file (demo_header nx ny steps) ∷ demo_frames nx ny (steps + 1)
    unfolding writes_of
    calls_of_run =
        let rest = flat_map-map_range (frame_calls run) frame_after (demo_frame nx ny) 1 steps later_calls in
        ap (flat_map (frame_calls run)) (frames_of_demo nx ny steps m few)
        ∙ (λ t. first_calls t ++ rest t)
        ∙ ap (λ (k : ℕ). create demo_file ∷ append demo_file (demo_header nx ny steps) ∷ demo_frames nx ny k) (sym (add-one steps))

    files_of_run : length (filter (λ (frame : Frame). frame.first) (frames_written run)) ≡ 1
    files_of_run =
        ap (λ (frames : List Frame). length (filter (λ (frame : Frame). frame.first) frames)) (frames_of_demo nx ny steps m few)
        ∙ ap (λ (frames : List Frame). suc (length frames)) (filter-map_range_none (λ (frame : Frame). frame.first) frame_after 1 steps (λ k l. not_first k l))

    records_of_run : length (frames_written run) ≡ steps + 1
    records_of_run = ap length (frames_of_demo nx ny steps m few) ∙ length-map-range_with_len frame_after 0 (suc steps) ∙ sym (add-one steps)

    bytes_of_run : sum_by (λ frame. sum_by length (record_of run frame)) (frames_written run) ≡ (steps + 1) * (20 + 4 * (nx * ny))
    bytes_of_run =
        ap (sum_by (λ frame. sum_by length (record_of run frame))) (frames_of_demo nx ny steps m few)
        ∙ sum-map_range (λ frame. sum_by length (record_of run frame)) frame_after (λ k. 20 + 4 * (nx * ny)) 0 0 (suc steps) (λ k l u. record_bytes k (omega arith))
        ∙ sum-constant (20 + 4 * (nx * ny)) 0 0 (suc steps)
        ∙ times_one_more steps (20 + 4 * (nx * ny))

    sum_of_run : sum_by (λ frame. sum_by sum (record_of run frame)) (frames_written run) ≡ sum_by (frame_sum nx ny) (range_with_len 0 (steps + 1))
    sum_of_run =
        ap (sum_by (λ frame. sum_by sum (record_of run frame))) (frames_of_demo nx ny steps m few)
        ∙ sum-map_range (λ frame. sum_by sum (record_of run frame)) frame_after (frame_sum nx ny) 0 0 (suc steps) (λ k l u. record_sum k (omega arith))
        ∙ ap (λ (k : ℕ). sum_by (frame_sum nx ny) (range_with_len 0 k)) (sym (add-one steps))

-- the run's store calls are the demo's
pub writes_of_demo : (d : Demo) (m : Answers) → d.steps < 1000 → writes_of (demo_run d.nx d.ny d.steps m) ≡ demo_calls d
writes_of_demo d m few = calls_of_run d.nx d.ny d.steps m few

-- and so is its summary
pub summary_of_demo : (d : Demo) (m : Answers) → d.steps < 1000 → summary_of (demo_run d.nx d.ny d.steps m) ≡ demo_summary d
unfolding summary_of
summary_of_demo d m few =
    let files = files_of_run d.nx d.ny d.steps m few in
    let records = records_of_run d.nx d.ny d.steps m few in
    let bytes = bytes_of_run d.nx d.ny d.steps m few in
    let total = sum_of_run d.nx d.ny d.steps m few in
    λ t. record { files = files t; records = records t; bytes = bytes t; sum = total t }
