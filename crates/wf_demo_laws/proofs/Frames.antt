-- The demo's frames.
use Rattle.std.proofs.Common.{◌≡◌, ℕ, zero, suc, ◌+◌, ◌*◌, ◌-◌, ◌%◌, ◌<◌, ◌≤◌, List, [], ◌∷◌, ◌++◌, map, length, get_or, refl, sym, ap, ◌∙◌, arith}
use Rattle.std.proofs.lemmas.List.FromFn.{length-map-range_with_len, map-range_with_len_more}
use Rattle.std.specs.Prelude.{flat_map, filter, ◌==◌}
use Rattle.std.specs.List.{range_with_len}
use Rattle.wf_model.specs.declared.frame.Frame.{Frame}
use Rattle.wf_model.specs.Value.{Answers}
use Rattle.wf_model.specs.Plans.{domain_of}
use Rattle.wf_model.specs.Calendar.{time_text, days_after}
use Rattle.wf_model.specs.Streams.{file_name}
use Rattle.wf_model.specs.Outcome.{script, grids_at}
use Rattle.wf_model.specs.Frames.{Output, is_like, outputs_from, frame_for, frames_from, frames_of, frames_written}
use Rattle.wf_model.specs.DemoCase.{case_start, demo_plan}
use Rattle.wf_model.specs.Demo.{demo_file}
use Rattle.wf_laws.proofs.Runs.{frames_written-Ok}
use Rattle.wf_demo_laws.specs.DemoLaws.{demo_run, frame_entry, step_entries, demo_script}
use Rattle.wf_demo_laws.proofs.Script.{script-steps}
use Rattle.wf_demo_laws.proofs.Parts.{filter-map_all}
use Rattle.wf_demo_laws.proofs.Grids.{demo_goes}

-- the output after n steps
abbrev pub output_after : ℕ → Output
output_after n = record { place = 3 * n; stream = 0; entry = frame_entry n }

-- the outputs of steps, and of the whole script
outputs_of_steps : (a n : ℕ) → outputs_from (3 * a + 1) (flat_map step_entries (range_with_len a n)) ≡ map output_after (range_with_len (a + 1) n)
unfolding outputs_from
outputs_of_steps a zero = refl
outputs_of_steps a (suc n) =
    let place : 3 * a + 1 + 1 + 1 ≡ 3 * (a + 1) = omega arith in
    rw place (ap (λ (os : List Output). output_after (a + 1) ∷ os) (outputs_of_steps (a + 1) n))

pub outputs_of_demo : (steps : ℕ) → outputs_from 0 (demo_script steps) ≡ map output_after (range_with_len 0 (suc steps))
unfolding outputs_from
outputs_of_demo steps = ap (λ (os : List Output). output_after 0 ∷ os) (outputs_of_steps 0 steps)

-- its frame, which the one file takes
abbrev pub frame_after : ℕ → Frame
frame_after n = record { number = n; place = 3 * n; domain = 1; stream = 0; time = time_text case_start (60 * n); file = demo_file; first = n == 0; rec = n }

-- the first of the outputs
first_output : (n : ℕ) → get_or (map output_after (range_with_len 0 n) ++ output_after n ∷ []) 0 (output_after n) ≡ output_after 0
first_output zero = refl
first_output (suc n) = refl

-- all outputs are alike
all_alike : (a n : ℕ) → filter (is_like (output_after a)) (map output_after (range_with_len 0 n)) ≡ map output_after (range_with_len 0 n)
all_alike a n = filter-map_all (is_like (output_after a)) output_after (range_with_len 0 n) (λ k. refl)

-- the file's name
file_is : file_name 0 1 (time_text case_start 0) ≡ demo_file
unfolding time_text days_after
file_is = refl

module _ (nx ny steps : ℕ) where
  -- each frame, and all of them
  frame_is : (n : ℕ) → n < 1000 → frame_for (demo_plan nx ny steps) (map output_after (range_with_len 0 n)) (output_after n) ≡ frame_after n
  unfolding domain_of
  frame_is n h =
      let long : length (map output_after (range_with_len 0 n)) ≡ n = length-map-range_with_len output_after 0 n in
      let rest : n % 1000 ≡ n = omega arith in
      let opened : n - n ≡ 0 = omega arith in
      rw (all_alike n n, long, rest, opened, first_output n, file_is) refl

  frames_are : (a n : ℕ) → a + n ≤ 1000 → frames_from (demo_plan nx ny steps) (map output_after (range_with_len 0 a)) (map output_after (range_with_len a n)) ≡ map frame_after (range_with_len a n)
  unfolding frames_from
  frames_are a zero h = refl
  frames_are a (suc n) h =
      let this = frame_is a (omega arith) in
      let more = sym (map-range_with_len_more output_after 0 a a (omega arith)) in
      let rest = ap (λ (before : List Output). frames_from (demo_plan nx ny steps) before (map output_after (range_with_len (a + 1) n))) more ∙ frames_are (a + 1) n (omega arith) in
      λ t. this t ∷ rest t

module _ (nx ny steps : ℕ) (m : Answers) (few : steps < 1000) where
  -- and all of them are written
  pub frames_of_demo : frames_written (demo_run nx ny steps m) ≡ map frame_after (range_with_len 0 (suc steps))
  unfolding frames_of
  frames_of_demo =
      frames_written-Ok (demo_run nx ny steps m) (grids_at (demo_run nx ny steps m) (length (script (demo_run nx ny steps m)))) (demo_goes nx ny steps m)
      ∙ ap (frames_from (demo_plan nx ny steps) []) (ap (outputs_from 0) (script-steps nx ny steps m) ∙ outputs_of_demo steps)
      ∙ frames_are nx ny steps 0 (suc steps) (omega arith)
