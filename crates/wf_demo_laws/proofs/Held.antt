-- What the patches of the demo hold at its end, in the lockstep run.
use Rattle.std.proofs.Common.{◌≡◌, ⊎_elim, ℕ, ◌+◌, ◌*◌, ◌<◌, ◌≤◌, Bool, true, false, List, [], ◌∷◌, ◌++◌, length, get_or, take, refl, sym, ap, ◌∙◌, subst, arith}
use Rattle.std.proofs.lemmas.List.Sums.{fold_more}
use Rattle.std.specs.Prelude.{ℤ, pos, ◌||◌, fold, unwrap_or, if◌then◌else◌}
use Rattle.wf_model.specs.declared.plan.Item.TheVariants as item
use Rattle.wf_model.specs.declared.script.Act.TheVariants.{Table}
use Rattle.wf_model.specs.declared.script.Entry.{Entry}
use Rattle.wf_model.specs.Value.{Answers, value_of}
use Rattle.wf_model.specs.Plans.{domain_of, field_of, item_of}
use Rattle.wf_model.specs.Grids.{Grids}
use Rattle.wf_model.specs.Script.{entry}
use Rattle.wf_model.specs.Outcome.{RunData, script, grids_after, grids_at}
use Rattle.wf_model.specs.Patches.{Split, split_of, in_box, own_box, memory_box, is_own, computes}
use Rattle.wf_model.specs.Shapes.{halo_holds}
use Rattle.wf_model.specs.Cycle.{Turn, done}
use Rattle.wf_model.specs.Marks.{Marks, all_fresh, marks_after, is_fresh}
use Rattle.wf_model.specs.Turns.{turns_after, turns_at}
use Rattle.wf_model.specs.PatchEffect.{Memory, after_setting, patch_sight}
use Rattle.wf_model.specs.Lockstep.{lockstep_at}
use Rattle.wf_model.specs.Sound.{IsDomain, IsSoundPlan, IsSoundLayout}
use Rattle.wf_model.specs.DemoCase.{columns_layout}
use Rattle.wf_model.specs.Demo.{demo_value}
use Rattle.wf_laws.proofs.Bools.{split_bool, differ, and_both, or_right}
use Rattle.wf_laws.proofs.Spans.{span-in}
use Rattle.wf_laws.proofs.Runs.{grids_at_more}
use Rattle.wf_laws.proofs.FirstOverflow.{IsClean, clean-Ok}
use Rattle.wf_laws.proofs.Memories.{Memories, memories_after, memories_at}
use Rattle.wf_laws.proofs.Entries.{marks_more}
use Rattle.wf_laws.proofs.WholeRun.{memory_is, fresh_right, own_right}
use Rattle.wf_demo_laws.specs.DemoLaws.{demo_run, frame_entry, demo_script}
use Rattle.wf_demo_laws.proofs.Script.{script-steps}
use Rattle.wf_demo_laws.proofs.Phase.{phase_of, phase_at, halo_keeps}
use Rattle.wf_demo_laws.proofs.Grids.{demo_goes, grid_after_frame, length-script, step_item}
use Rattle.wf_demo_laws.proofs.Accepted.{halo_part, computed_is, plan_sound, layout_sound, plan_covered}

-- places, counted from the step's first
plus_none : (n : ℕ) → n ≡ n + 0
plus_none n = omega arith

plus_two : (n : ℕ) → n + 1 + 1 ≡ n + 2
plus_two n = omega arith

one_place : (steps : ℕ) → steps ≡ 0 → 3 * steps + 1 ≡ 3 * 0 + 1
one_place steps h = omega arith

last_place : (n steps : ℕ) → steps ≡ n + 1 → 3 * steps + 1 ≡ 3 * n + 1 + 1 + 1 + 1
last_place n steps h = omega arith

two_less : (n : ℕ) → 3 * n + 1 + 1 ≤ 3 * n + 1 + 1 + 1 + 1
two_less n = omega arith

module _ (nx ny steps : ℕ) (m : Answers) (split : Split) where
  abbrev run : RunData
  run = demo_run nx ny steps m

  -- the halo's item in the step after n steps
  abbrev halo_at : ℕ → Entry
  halo_at n = entry 1 (n + 1) (60 * n) (Table 0)

  -- a patch computes none but its own cells
  not_computed : (p k : ℕ) (j i : ℤ) → is_own run.plan split 1 p 0 j i ≡ false → computes run.plan split 1 p phase_of k j i ≡ false
  unfolding is_own
  not_computed p k j i other =
      ⊎_elim
      (λ c. let at = computed_is nx ny steps split p k j i c in
      absurd (differ (sym (and_both _ _ (span-in (own_box run.plan split 1 p 0).y j at.y_low at.y_high) (span-in (own_box run.plan split 1 p 0).x i at.x_low at.x_high)) ∙ other)))
      (λ c. c)
      (split_bool (computes run.plan split 1 p phase_of k j i))

  -- so a phase leaves the others, and a frame leaves all
  phase_leaves : (ms : Memories) (n p k : ℕ) (j i : ℤ) → is_own run.plan split 1 p 0 j i ≡ false → memories_after run split ms (phase_at nx ny steps m n) 1 p 0 k j i ≡ ms 1 p 0 k j i
  unfolding memories_after after_setting item_of
  phase_leaves ms n p k j i other =
      λ t. if not_computed p k j i other t then unwrap_or (value_of m (patch_sight run.plan 1 0 (ms 1 p) (n + 1) k j i) phase_of.expr) (pos 0) else ms 1 p 0 k j i

  frame_leaves : (ms : Memories) (n p f k : ℕ) (j i : ℤ) → memories_after run split ms (frame_entry n) 1 p f k j i ≡ ms 1 p f k j i
  unfolding memories_after after_setting
  frame_leaves ms n p f k j i = refl

  -- one place more
  memories_next : (n : ℕ) (e : Entry) → n < length (script run) → memories_at run split (n + 1) ≡ memories_after run split (memories_at run split n) (get_or (script run) n e)
  unfolding memories_at
  memories_next n e h = fold_more (memories_after run split) _ (script run) n e h

  turns_next : (n : ℕ) (e : Entry) → n < length (script run) → turns_at run 1 (n + 1) ≡ turns_after run.plan 1 (turns_at run 1 n) (get_or (script run) n e)
  turns_next n e h = fold_more (turns_after run.plan 1) [] (script run) n e h

  -- the step's items
  halo_item : (n : ℕ) → n < steps → (e : Entry) → get_or (script run) (3 * n + 1) e ≡ halo_at n
  halo_item n h e = ap (λ (k : ℕ). get_or (script run) k e) (plus_none (3 * n + 1)) ∙ step_item nx ny steps m n 0 h (omega arith) e

  phase_item : (n : ℕ) → n < steps → (e : Entry) → get_or (script run) (3 * n + 1 + 1) e ≡ phase_at nx ny steps m n
  phase_item n h e = step_item nx ny steps m n 1 h (omega arith) e

  last_item : (n : ℕ) → n < steps → (e : Entry) → get_or (script run) (3 * n + 1 + 1 + 1) e ≡ frame_entry (n + 1)
  last_item n h e = ap (λ (k : ℕ). get_or (script run) k e) (plus_two (3 * n + 1)) ∙ step_item nx ny steps m n 2 h (omega arith) e

  -- what the halo fetches is fresh after it
  halo_turn : (n : ℕ) → n < steps → turns_at run 1 (3 * n + 1 + 1) ≡ turns_at run 1 (3 * n + 1) ++ (done (item.Halo (halo_part ∷ [])) ∷ [])
  unfolding item_of
  halo_turn n h =
      turns_next (3 * n + 1) (halo_at n) (omega (arith, length-script nx ny steps m))
      ∙ ap (turns_after run.plan 1 (turns_at run 1 (3 * n + 1))) (halo_item n h (halo_at n))

  halo_fresh : (n p k : ℕ) (j i : ℤ) → n < steps → halo_holds run.plan split 1 p halo_part j i ≡ true → is_fresh run.plan split 1 p (marks_after run.plan split 1 p (turns_at run 1 (3 * n + 1 + 1)) all_fresh) 0 k j i ≡ true
  halo_fresh n p k j i h there =
      let before : Bool = marks_after run.plan split 1 p (turns_at run 1 (3 * n + 1)) all_fresh 0 k j i in
      ap (λ (ts : List Turn). is_fresh run.plan split 1 p (marks_after run.plan split 1 p ts all_fresh) 0 k j i) (halo_turn n h)
      ∙ ap (λ (mk : Marks). is_fresh run.plan split 1 p mk 0 k j i) (marks_more run.plan split 1 p (turns_at run 1 (3 * n + 1)) (done (item.Halo (halo_part ∷ []))))
      ∙ or_right (is_own run.plan split 1 p 0 j i) (before || (halo_holds run.plan split 1 p halo_part j i || false)) (or_right before (halo_holds run.plan split 1 p halo_part j i || false) (λ t. there t || false))

  -- the grid between the halo and the phase
  grid_after_halo : (n j i : ℕ) → n < steps → 1 ≤ j → j ≤ ny → 1 ≤ i → i ≤ nx → grids_at run (3 * n + 1 + 1) 1 0 1 j i ≡ pos (demo_value nx ny n j i)
  grid_after_halo n j i h a b c d =
      ap (λ (g : Grids). g 1 0 1 j i) (grids_at_more run (3 * n + 1) (halo_at n) (omega (arith, length-script nx ny steps m)))
      ∙ ap (λ (e : Entry). grids_after run (grids_at run (3 * n + 1)) e 1 0 1 j i) (halo_item n h (halo_at n))
      ∙ halo_keeps nx ny steps m (grids_at run (3 * n + 1)) n 1 j i
      ∙ grid_after_frame nx ny steps m n (omega arith) j i a b c d

  -- from there to the end a cell that is not own stays
  stays : (n p : ℕ) (j i : ℤ) → n < steps → is_own run.plan split 1 p 0 j i ≡ false → memories_at run split (3 * n + 1 + 1 + 1 + 1) 1 p 0 1 j i ≡ memories_at run split (3 * n + 1 + 1) 1 p 0 1 j i
  stays n p j i h other =
      ap (λ (ms : Memories). ms 1 p 0 1 j i) (memories_next (3 * n + 1 + 1 + 1) (frame_entry (n + 1)) (omega (arith, length-script nx ny steps m)))
      ∙ ap (λ (e : Entry). memories_after run split (memories_at run split (3 * n + 1 + 1 + 1)) e 1 p 0 1 j i) (last_item n h (frame_entry (n + 1)))
      ∙ frame_leaves (memories_at run split (3 * n + 1 + 1 + 1)) (n + 1) p 0 1 j i
      ∙ ap (λ (ms : Memories). ms 1 p 0 1 j i) (memories_next (3 * n + 1 + 1) (phase_at nx ny steps m n) (omega (arith, length-script nx ny steps m)))
      ∙ ap (λ (e : Entry). memories_after run split (memories_at run split (3 * n + 1 + 1)) e 1 p 0 1 j i) (phase_item n h (phase_at nx ny steps m n))
      ∙ phase_leaves (memories_at run split (3 * n + 1 + 1)) n p 1 j i other

module _ (nx ny steps px : ℕ) (m : Answers) (high : 1 ≤ ny) (some : 1 ≤ px) (room : px ≤ nx) where
  abbrev wide : Split
  wide = split_of (columns_layout px)

  abbrev go : RunData
  go = demo_run nx ny steps m

  -- the run is accepted, and nothing of it overflows
  sound : IsSoundPlan go.plan
  sound = plan_sound nx ny steps (omega arith) high

  laid : IsSoundLayout go.plan (columns_layout px)
  laid = layout_sound nx ny steps px some room high

  first : IsDomain go.plan 1
  first = (omega arith, omega arith)

  clean : (n : ℕ) → n ≤ length (script go) → IsClean go n
  clean n h = clean-Ok go (grids_at go (length (script go))) n (demo_goes nx ny steps m) h

  -- a patch's memory at the end
  abbrev pub end_memory : ℕ → Memory
  end_memory p = ((lockstep_at go (columns_layout px) (length (script go))).patches 1 p).memory

  -- own cells have all steps behind them
  pub own_value : (p j i : ℕ) → p < px * 1 → 1 ≤ j → j ≤ ny → 1 ≤ i → i ≤ nx → is_own go.plan wide 1 p 0 (pos j) (pos i) ≡ true → end_memory p 0 1 (pos j) (pos i) ≡ pos (demo_value nx ny steps j i)
  unfolding domain_of field_of
  own_value p j i hp a b c d own =
      own_right go (columns_layout px) sound laid (plan_covered nx ny steps) 1 (length (script go)) p 0 1 (pos j) (pos i) first (omega arith) (clean (length (script go)) (omega arith)) hp (omega arith) (omega arith) own
      ∙ ap (λ (n : ℕ). grids_at go n 1 0 1 j i) (length-script nx ny steps m)
      ∙ grid_after_frame nx ny steps m steps (omega arith) j i a b c d

  -- without steps all cells are fresh
  fresh_at_end : (p k : ℕ) (j i : ℤ) → steps ≡ 0 → is_fresh go.plan wide 1 p (marks_after go.plan wide 1 p (turns_at go 1 (length (script go))) all_fresh) 0 k j i ≡ true
  unfolding marks_after
  fresh_at_end p k j i none =
      ap (λ (es : List Entry). is_fresh go.plan wide 1 p (marks_after go.plan wide 1 p (fold (turns_after go.plan 1) [] (take (length es) es)) all_fresh) 0 k j i) (script-steps nx ny steps m ∙ ap demo_script none)
      ∙ or_right (is_own go.plan wide 1 p 0 j i) true refl

  -- and the others of the memory one step less, where there are steps
  module _ (p j i : ℕ) (hp : p < px * 1) (j_low : 1 ≤ j) (j_high : j ≤ ny) (i_low : 1 ≤ i) (i_high : i ≤ nx) (within : in_box (memory_box go.plan wide 1 p 0) (pos j) (pos i) ≡ true) where
    pub beside_none : steps ≡ 0 → end_memory p 0 1 (pos j) (pos i) ≡ pos (demo_value nx ny 0 j i)
    unfolding domain_of field_of
    beside_none none =
        fresh_right go (columns_layout px) sound laid (plan_covered nx ny steps) 1 (length (script go)) p 0 1 (pos j) (pos i) first (omega arith) (clean (length (script go)) (omega arith)) hp (omega arith) (omega arith) within (fresh_at_end p 1 (pos j) (pos i) none)
        ∙ ap (λ (n : ℕ). grids_at go n 1 0 1 j i) (length-script nx ny steps m ∙ one_place steps none)
        ∙ grid_after_frame nx ny steps m 0 (omega arith) j i j_low j_high i_low i_high

    pub beside_some : (n : ℕ) → steps ≡ n + 1 → is_own go.plan wide 1 p 0 (pos j) (pos i) ≡ false → halo_holds go.plan wide 1 p halo_part (pos j) (pos i) ≡ true → end_memory p 0 1 (pos j) (pos i) ≡ pos (demo_value nx ny n j i)
    unfolding domain_of field_of
    beside_some n is other there =
        let ends : length (script go) ≡ 3 * n + 1 + 1 + 1 + 1 = length-script nx ny steps m ∙ last_place n steps is in
        let near : 3 * n + 1 + 1 ≤ length (script go) = subst (λ (k : ℕ). 3 * n + 1 + 1 ≤ k) (sym ends) (two_less n) in
        (λ t. memory_is go (columns_layout px) sound laid (plan_covered nx ny steps) 1 (length (script go)) p first (omega arith) (clean (length (script go)) (omega arith)) hp t 0 1 (pos j) (pos i))
        ∙ ap (λ (k : ℕ). memories_at go wide k 1 p 0 1 (pos j) (pos i)) ends
        ∙ stays nx ny steps m wide n p (pos j) (pos i) (omega arith) other
        ∙ (λ t. sym (memory_is go (columns_layout px) sound laid (plan_covered nx ny steps) 1 (3 * n + 1 + 1) p first near (clean (3 * n + 1 + 1) near) hp) t 0 1 (pos j) (pos i))
        ∙ fresh_right go (columns_layout px) sound laid (plan_covered nx ny steps) 1 (3 * n + 1 + 1) p 0 1 (pos j) (pos i) first near (clean (3 * n + 1 + 1) near) hp (omega arith) (omega arith) within (halo_fresh nx ny steps m wide n p 1 (pos j) (pos i) (omega arith) there)
        ∙ grid_after_halo nx ny steps m wide n j i (omega arith) j_low j_high i_low i_high
