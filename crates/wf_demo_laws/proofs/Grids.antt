-- The demo's grid along its script, where nothing overflows.
use Rattle.std.proofs.Common.{◌≡◌, ℕ, zero, suc, ◌+◌, ◌*◌, ◌-◌, ◌%◌, ◌<◌, ◌≤◌, List, [], ◌∷◌, ◌++◌, length, take, get_or, refl, sym, ap, ◌∙◌, subst, arith, add-one, None, Ok}
use Rattle.std.proofs.Math.Seq.{take-length}
use Rattle.std.specs.Prelude.{flat_map, fold, pos}
use Rattle.std.specs.List.{range_with_len}
use Rattle.wf_model.specs.declared.script.Act.TheVariants.{Table}
use Rattle.wf_model.specs.declared.script.Entry.{Entry}
use Rattle.wf_model.specs.Value.{Answers}
use Rattle.wf_model.specs.Plans.{domain_of, field_of, begin_of}
use Rattle.wf_model.specs.Grids.{Grids, grid_from}
use Rattle.wf_model.specs.Script.{entry}
use Rattle.wf_model.specs.Outcome.{RunData, script, begin_grids, overflow_of, grids_after, grids_at, outcome_from, outcome_of}
use Rattle.wf_model.specs.Demo.{demo_value}
use Rattle.wf_laws.proofs.Runs.{outcome_from-next, grids_at_more}
use Rattle.wf_laws.proofs.Listing.{length-rows, get_or-rows, get_or-listed}
use Rattle.wf_demo_laws.specs.DemoLaws.{demo_run, frame_entry, step_entries, demo_script}
use Rattle.wf_demo_laws.proofs.Script.{script-steps}
use Rattle.wf_demo_laws.proofs.Parts.{take-parts}
use Rattle.wf_demo_laws.proofs.Phase.{IsDemoGrid, phase_goes, halo_goes, frame_goes, halo_keeps, frame_keeps, phase_steps}

-- no item of the list overflows, each on the grids that the ones before it leave
unfoldable pub GoesThrough : RunData → List Entry → Grids → Type 0
GoesThrough r [] g = Unit {0}
GoesThrough r (e ∷ es) g = (overflow_of r e g ≡ None) × GoesThrough r es (grids_after r g e)

-- then the outcome is the grids after all
pub outcome_from-all : (r : RunData) (n : ℕ) (es : List Entry) (g : Grids) → GoesThrough r es g → outcome_from r n es g ≡ Ok (fold (grids_after r) g es)
unfolding GoesThrough outcome_from
outcome_from-all r n [] g h = refl
outcome_from-all r n (e ∷ es) g h = outcome_from-next r n e es g h.0 ∙ outcome_from-all r (n + 1) es (grids_after r g e) h.1

-- places, counted from the first frame
three_more : (n : ℕ) → 3 * n + 1 ≡ suc (n * 3)
three_more n = omega arith

three_ahead : (n : ℕ) → 3 * suc n ≡ suc (n * 3 + 2)
three_ahead n = omega arith

three_on : (n c : ℕ) → 3 * n + 1 + c ≡ suc (n * 3 + c)
three_on n c = omega arith

none_more : (n : ℕ) → 0 + n ≡ n
none_more n = omega arith

none_one : (n : ℕ) → 0 + n + 1 ≡ suc n
none_one n = omega arith

module _ (nx ny steps : ℕ) (m : Answers) where
  abbrev run : RunData
  run = demo_run nx ny steps m

  -- the grids after the items of a step
  after_step : Grids → ℕ → Grids
  after_step g n = fold (grids_after run) g (step_entries n)

  -- a step goes through, and makes the next grid
  step_goes : (g : Grids) (n : ℕ) → IsDemoGrid nx ny n g → (es : List Entry) → GoesThrough run es (after_step g n) → GoesThrough run (step_entries n ++ es) g
  unfolding GoesThrough after_step
  step_goes g n at es rest =
      let halo = grids_after run g (entry 1 (n + 1) (60 * n) (Table 0)) in (
        halo_goes nx ny steps m g n,
        (
          phase_goes nx ny steps m halo n (λ j i a b c d. halo_keeps nx ny steps m g n 1 j i ∙ at j i a b c d),
          (frame_goes nx ny steps m (grids_after run halo (entry 1 (n + 1) (60 * n) (Table 1))) (n + 1), rest),
        ),
      )

  step_steps : (g : Grids) (n : ℕ) → IsDemoGrid nx ny n g → IsDemoGrid nx ny (n + 1) (after_step g n)
  unfolding after_step
  step_steps g n at j i a b c d =
      let halo = grids_after run g (entry 1 (n + 1) (60 * n) (Table 0)) in
      frame_keeps nx ny steps m (grids_after run halo (entry 1 (n + 1) (60 * n) (Table 1))) (n + 1) 1 j i
      ∙ phase_steps nx ny steps m halo n (λ y x l h p q. halo_keeps nx ny steps m g n 1 y x ∙ at y x l h p q) j i a b c d
      ∙ ap (λ (t : ℕ). pos (demo_value nx ny t j i)) (sym (add-one n))

  -- from the grid after so many steps the next ones go through
  steps_go : (g : Grids) (a n : ℕ) → IsDemoGrid nx ny a g → GoesThrough run (flat_map step_entries (range_with_len a n)) g
  unfolding GoesThrough
  steps_go g a zero at = tt
  steps_go g a (suc n) at = step_goes g a at _ (steps_go (after_step g a) (a + 1) n (step_steps g a at))

  -- and the grid is then the one after these too
  steps_step : (g : Grids) (a n : ℕ) → IsDemoGrid nx ny a g → IsDemoGrid nx ny (a + n) (fold (grids_after run) g (flat_map step_entries (range_with_len a n)))
  unfolding after_step
  steps_step g a zero at = let none : a ≡ a + 0 = omega arith in subst (λ (t : ℕ). IsDemoGrid nx ny t g) none at
  steps_step g a (suc n) at =
      let one : (a + 1) + n ≡ a + suc n = omega arith in
      subst (λ (t : ℕ). IsDemoGrid nx ny t (fold (grids_after run) g (flat_map step_entries (range_with_len a (suc n))))) one (steps_step (after_step g a) (a + 1) n (step_steps g a at))

  -- the grid at the begin
  begins_so : IsDemoGrid nx ny 0 (begin_grids run)
  unfolding begin_grids begin_of domain_of field_of grid_from demo_value
  begins_so j i a b c d =
      let width : nx + 1 - 1 + 0 ≡ nx = omega arith in
      let height : ny + 1 - 1 + 0 ≡ ny = omega arith in
      let place : (0 * ny + (j - 1)) * nx + (i - 1) ≡ 0 * (ny * nx) + ((j - 1) * nx + (i - 1)) = omega arith in
      let column : 1 + (i - 1) - 1 ≡ i - 1 = omega arith in
      let row : 1 + (j - 1) - 1 ≡ j - 1 = omega arith in
      rw (width, height, place, get_or-listed 1 ny nx (λ k y x. pos ((37 * (x - 1) + 53 * (y - 1)) % 100)) 0 (j - 1) (i - 1) (omega arith) (omega arith) (omega arith), column, row) refl

  -- and after the first frame
  after_first : Grids
  after_first = grids_after run (begin_grids run) (frame_entry 0)

  first_so : IsDemoGrid nx ny 0 after_first
  unfolding after_first
  first_so j i a b c d = frame_keeps nx ny steps m (begin_grids run) 0 1 j i ∙ begins_so j i a b c d

  -- the whole script goes through
  script_goes : GoesThrough run (script run) (begin_grids run)
  unfolding GoesThrough after_first
  script_goes = subst (λ (es : List Entry). GoesThrough run es (begin_grids run)) (sym (script-steps nx ny steps m)) (frame_goes nx ny steps m (begin_grids run) 0, steps_go after_first 0 steps first_so)

  -- nothing overflows
  pub demo_goes : outcome_of run ≡ Ok (grids_at run (length (script run)))
  unfolding outcome_of grids_at
  demo_goes = outcome_from-all run 0 (script run) (begin_grids run) script_goes ∙ ap (λ (es : List Entry). Ok (fold (grids_after run) (begin_grids run) es)) (sym (take-length (script run)))

  -- the grids are those of the steps before
  grids_are : (n : ℕ) → n ≤ steps → grids_at run (3 * n + 1) ≡ fold (grids_after run) after_first (flat_map step_entries (range_with_len 0 n))
  unfolding grids_at after_first
  grids_are n h =
      ap (λ (es : List Entry). fold (grids_after run) (begin_grids run) (take (3 * n + 1) es)) (script-steps nx ny steps m)
      ∙ ap (λ (k : ℕ). fold (grids_after run) (begin_grids run) (take k (demo_script steps))) (three_more n)
      ∙ ap (fold (grids_after run) after_first) (take-parts step_entries 3 (λ k. refl) 0 n steps h)

  -- before the item after the frame that follows n steps
  pub grid_after_frame : (n : ℕ) → n ≤ steps → IsDemoGrid nx ny n (grids_at run (3 * n + 1))
  grid_after_frame n h =
      let none : 0 + n ≡ n = omega arith in
      subst (IsDemoGrid nx ny n) (sym (grids_are n h)) (subst (λ (t : ℕ). IsDemoGrid nx ny t (fold (grids_after run) after_first (flat_map step_entries (range_with_len 0 n)))) none (steps_step after_first 0 n first_so))

  -- a frame, and three items a step
  pub length-script : length (script run) ≡ 3 * steps + 1
  length-script = ap length (script-steps nx ny steps m) ∙ ap suc (length-rows step_entries 3 (λ k. refl) 0 steps) ∙ sym (three_more steps)

  -- the items of each step
  pub step_item : (n c : ℕ) → n < steps → c < 3 → (e : Entry) → get_or (script run) (3 * n + 1 + c) e ≡ get_or (step_entries n) c e
  step_item n c h few e =
      ap (λ (es : List Entry). get_or es (3 * n + 1 + c) e) (script-steps nx ny steps m)
      ∙ ap (λ (k : ℕ). get_or (demo_script steps) k e) (three_on n c)
      ∙ get_or-rows step_entries 3 (λ k. refl) 0 steps n c e h few
      ∙ ap (λ (k : ℕ). get_or (step_entries k) c e) (none_more n)

  -- each frame's item
  demo_frame_item : (n : ℕ) → n ≤ steps → (e : Entry) → get_or (demo_script steps) (3 * n) e ≡ frame_entry n
  demo_frame_item zero h e = refl
  demo_frame_item (suc n) h e =
      ap (λ (k : ℕ). get_or (demo_script steps) k e) (three_ahead n)
      ∙ get_or-rows step_entries 3 (λ k. refl) 0 steps n 2 e (omega arith) (omega arith)
      ∙ ap frame_entry (none_one n)

  pub frame_item : (n : ℕ) → n ≤ steps → (e : Entry) → get_or (script run) (3 * n) e ≡ frame_entry n
  frame_item n h e = ap (λ (es : List Entry). get_or es (3 * n) e) (script-steps nx ny steps m) ∙ demo_frame_item n h e

  -- and before that frame
  pub grid_at_frame : (n : ℕ) → n ≤ steps → IsDemoGrid nx ny n (grids_at run (3 * n))
  grid_at_frame n h j i a b c d =
      sym (frame_keeps nx ny steps m (grids_at run (3 * n)) n 1 j i)
      ∙ ap (λ (e : Entry). grids_after run (grids_at run (3 * n)) e 1 0 1 j i) (sym (frame_item n h (frame_entry n)))
      ∙ ap (λ (g : Grids). g 1 0 1 j i) (sym (grids_at_more run (3 * n) (frame_entry n) (omega (arith, length-script))))
      ∙ grid_after_frame n h j i a b c d
