-- The script of a run of one domain: its frames do nothing, and its steps are the items of the table.
use Rattle.std.proofs.Common.{◌≡◌, ℕ, zero, suc, ◌+◌, ◌-◌, ◌*◌, ◌/◌, ◌<◌, ◌≤◌, Bool, true, false, List, [], ◌++◌, map, length, refl, sym, ap, ◌∙◌, arith, Option, Some, None}
use Rattle.std.proofs.Math.Nat.{mul-div_cancel}
use Rattle.std.specs.Prelude.{ℤ, pos, flat_map, filter, ◌==◌, ◌||◌, if◌then◌else◌, nat_lt}
use Rattle.std.specs.List.{range_with_len}
use Rattle.wf_model.specs.declared.plan.Plan.{Plan}
use Rattle.wf_model.specs.declared.point.Point.{Point}
use Rattle.wf_model.specs.declared.script.Act.TheVariants.{Emit}
use Rattle.wf_model.specs.declared.script.Entry.{Entry}
use Rattle.wf_model.specs.Plans.{domain_of, begin_of, children, domains_of, up_to, nx, ny}
use Rattle.wf_model.specs.Grids.{Grids}
use Rattle.wf_model.specs.Script.{entry, step_of, script_of, steps_by, begin_time, start_frames, due_frames, restart_frames, restart_stream, table, is_due, not_before}
use Rattle.wf_model.specs.Sound.{IsLevel}
use Rattle.wf_model.specs.Outcome.{RunData, script, begin_grids, outcome_of}
use Rattle.wf_grid.specs.Levels.{lists_of, AreLists}
use Rattle.wf_grid.specs.Stepped.{Left, and_on, left_by, left_by_step, left_by_steps}
use Rattle.wf_grid.specs.Takeable.{IsTable}
use Rattle.wf_grid.specs.Held.{point_at_end, grids_at_end}
use Rattle.wf_grid.proofs.Running.{Ran, run_on, run_from, seen, run_told, run-append, run-before, run-after, frames-idle, items-seen}

-- a plan of one domain has no nests
pub childless : (plan : Plan) → length plan.domains ≡ 1 → children plan 1 ≡ []
unfolding children
childless plan one = ap (λ (n : ℕ). filter (λ c. (domain_of plan c).parent == 1) (filter (nat_lt 1) (up_to n))) one

module _ (r : RunData) (one : length r.plan.domains ≡ 1) (begins : (domain_of r.plan 1).begins ≡ pos 0) (seconds : 1 ≤ (domain_of r.plan 1).seconds)
    (are : (g : Grids) → AreLists r.plan 1 (lists_of r.plan 1 g)) (wide : (f : ℕ) → IsLevel r.plan f → (1 ≤ nx r.plan 1 f) × (1 ≤ ny r.plan 1 f)) (is_table : IsTable r.plan 1) where
  -- the frames after a step do nothing
  due-idle : (step t : ℕ) (g : Grids) → run_from r (due_frames r.plan r.initial.begins 1 step t) g ≡ record { point = None; grids = g }
  due-idle step t g = frames-idle r (λ s. 1) (λ s. step) (λ s. s) t _ g

  restart-idle : (b c : Bool) (step t : ℕ) (ds : List ℕ) (g : Grids) →
      run_from r (if b then (if c then map (λ d. entry d (steps_by r.plan r.initial.begins d t) t (Emit restart_stream)) ds else []) else []) g ≡ record { point = None; grids = g }
  unfolding run_from
  restart-idle true true step t ds g = frames-idle r (λ d. d) (λ d. steps_by r.plan r.initial.begins d t) (λ d. restart_stream) t ds g
  restart-idle true false step t ds g = refl
  restart-idle false c step t ds g = refl

  -- nothing does nothing
  nil-idle : (g : Grids) → run_from r [] g ≡ record { point = None; grids = g }
  unfolding run_from
  nil-idle g = refl

  -- one step, by its parts
  step-parts : (t : ℕ) → step_of r.plan r.initial.begins 1 1 t ≡
      (((([] ++ table r.plan r.initial.begins 1 (steps_by r.plan r.initial.begins 1 t + 1) t) ++ []) ++ due_frames r.plan r.initial.begins 1 (steps_by r.plan r.initial.begins 1 t + 1) (t + (domain_of r.plan 1).seconds))
      ++ (if 1 == 1 then restart_frames r.plan r.initial.begins (steps_by r.plan r.initial.begins 1 t + 1) (t + (domain_of r.plan 1).seconds) else []))
  unfolding step_of
  step-parts t = let none : children r.plan 1 ≡ [] = childless r.plan one in rw none refl

  -- a step runs its items
  step-run : (t : ℕ) (g : Grids) → run_from r (step_of r.plan r.initial.begins 1 1 t) g ≡ run_from r (table r.plan r.initial.begins 1 (steps_by r.plan r.initial.begins 1 t + 1) t) g
  step-run t g =
      let step : ℕ = steps_by r.plan r.initial.begins 1 t + 1 in
      let items : List Entry = table r.plan r.initial.begins 1 (steps_by r.plan r.initial.begins 1 t + 1) t in
      let due : List Entry = due_frames r.plan r.initial.begins 1 (steps_by r.plan r.initial.begins 1 t + 1) (t + (domain_of r.plan 1).seconds) in
      let restart : List Entry = if 1 == 1 then restart_frames r.plan r.initial.begins (steps_by r.plan r.initial.begins 1 t + 1) (t + (domain_of r.plan 1).seconds) else [] in
      ap (λ (es : List Entry). run_from r es g) (step-parts t)
      ∙ run-after r ((([] ++ items) ++ []) ++ due) restart g (λ h. restart-idle (1 == 1) (is_due r.plan.restart_steps (steps_by r.plan r.initial.begins 1 t + 1)) step (t + (domain_of r.plan 1).seconds)
      (filter (λ d. (begin_of r.initial.begins d).resumed || nat_lt (begin_time r.plan r.initial.begins d) (t + (domain_of r.plan 1).seconds)) (domains_of r.plan)) h)
      ∙ run-after r (([] ++ items) ++ []) due g (λ h. due-idle step (t + (domain_of r.plan 1).seconds) h)
      ∙ run-after r ([] ++ items) [] g nil-idle

  -- the number of the step
  step-number : (n : ℕ) → steps_by r.plan r.initial.begins 1 (n * (domain_of r.plan 1).seconds) ≡ (begin_of r.initial.begins 1).steps + n
  step-number n =
      let s : ℕ = (domain_of r.plan 1).seconds in
      let at_0 : begin_time r.plan r.initial.begins 1 ≡ 0 = (λ i. if (begin_of r.initial.begins 1).resumed then 0 else not_before (begins i)) ∙ zero_both (begin_of r.initial.begins 1).resumed in
      let whole : n * (domain_of r.plan 1).seconds - 0 ≡ n * (domain_of r.plan 1).seconds = omega arith in
      (λ i. (begin_of r.initial.begins 1).steps + (n * (domain_of r.plan 1).seconds - at_0 i) / (domain_of r.plan 1).seconds)
      ∙ (λ i. (begin_of r.initial.begins 1).steps + whole i / (domain_of r.plan 1).seconds)
      ∙ ap (λ (k : ℕ). (begin_of r.initial.begins 1).steps + k) (mul-div_cancel n (some (domain_of r.plan 1).seconds seconds))
    where
      zero_both : (b : Bool) → ◌≡◌ {A = ℕ} (if b then 0 else 0) 0
      zero_both true = refl
      zero_both false = refl

      some : (a : ℕ) → 1 ≤ a → 0 < a
      some a h = omega arith

  -- a step leaves of the lists what it leaves of the grids
  step-seen : (n : ℕ) (g : Grids) → left_by_step r.plan r.answers 1 ((begin_of r.initial.begins 1).steps + n + 1) (lists_of r.plan 1 g)
      ≡ seen r are wide is_table (run_from r (step_of r.plan r.initial.begins 1 1 (n * (domain_of r.plan 1).seconds)) g)
  step-seen n g =
      let t : ℕ = n * (domain_of r.plan 1).seconds in
      ap (λ (k : ℕ). left_by_step r.plan r.answers 1 (k + 1) (lists_of r.plan 1 g)) (sym (step-number n))
      ∙ items-seen r are wide is_table (steps_by r.plan r.initial.begins 1 (n * (domain_of r.plan 1).seconds) + 1) (n * (domain_of r.plan 1).seconds) 0 (length r.plan.items) g (omega arith)
      ∙ ap (seen r are wide is_table) (sym (step-run (n * (domain_of r.plan 1).seconds) g))

  -- all steps
  steps-seen : (a n : ℕ) (g : Grids) →
      left_by (λ k ls. left_by_step r.plan r.answers 1 ((begin_of r.initial.begins 1).steps + k + 1) ls) (range_with_len a n) (lists_of r.plan 1 g)
      ≡ seen r are wide is_table (run_from r (flat_map (λ k. step_of r.plan r.initial.begins 1 1 (k * (domain_of r.plan 1).seconds)) (range_with_len a n)) g)
  unfolding left_by
  steps-seen a zero g = ap (seen r are wide is_table) (sym (nil-idle g))
  steps-seen a (suc n) g =
      let first : List Entry = step_of r.plan r.initial.begins 1 1 (a * (domain_of r.plan 1).seconds) in
      let rest : List Entry = flat_map (λ k. step_of r.plan r.initial.begins 1 1 (k * (domain_of r.plan 1).seconds)) (range_with_len (a + 1) n) in
      let f : List (List ℤ) → Left = left_by (λ k ls. left_by_step r.plan r.answers 1 ((begin_of r.initial.begins 1).steps + k + 1) ls) (range_with_len (a + 1) n) in
      (λ i. and_on (step-seen a g i).point (step-seen a g i).lists f)
      ∙ next (run_from r first g).point (run_from r first g).grids f (run_from r rest) (steps-seen (a + 1) n)
      ∙ ap (seen r are wide is_table) (sym (run-append r first rest g))
    where
      next : (o : Option Point) (h : Grids) (f : List (List ℤ) → Left) (rest : Grids → Ran) → ((u : Grids) → f (lists_of r.plan 1 u) ≡ seen r are wide is_table (rest u)) →
          and_on o (lists_of r.plan 1 h) f ≡ seen r are wide is_table (run_on o h (rest h))
      next None h f rest same = same h
      next (Some p) h f rest same = refl

  -- the whole script
  script-run : (g : Grids) → run_from r (script r) g ≡ run_from r (flat_map (λ k. step_of r.plan r.initial.begins 1 1 (k * (domain_of r.plan 1).seconds)) (range_with_len 0 r.plan.steps)) g
  unfolding script_of
  script-run g =
      run-before r (if (begin_of r.initial.begins 1).resumed then [] else start_frames r.plan r.initial.begins 1 0)
      (flat_map (λ n. step_of r.plan r.initial.begins (length r.plan.domains) 1 (n * (domain_of r.plan 1).seconds)) (range_with_len 0 r.plan.steps)) g (start-idle (begin_of r.initial.begins 1).resumed)
      ∙ ap (λ (k : ℕ). run_from r (flat_map (λ n. step_of r.plan r.initial.begins k 1 (n * (domain_of r.plan 1).seconds)) (range_with_len 0 r.plan.steps)) g) one
    where
      start-idle : (b : Bool) (h : Grids) → run_from r (if b then [] else start_frames r.plan r.initial.begins 1 0) h ≡ record { point = None; grids = h }
      start-idle true h = nil-idle h
      start-idle false h = frames-idle r (λ s. 1) (λ s. 0) (λ s. s) 0 _ h

  -- the steps leave the point and the lists of the outcome
  pub steps-settle : left_by_steps r.plan r.answers 1 (begin_of r.initial.begins 1).steps (lists_of r.plan 1 (begin_grids r))
      ≡ record { point = point_at_end (outcome_of r); lists = lists_of r.plan 1 (grids_at_end r (outcome_of r)) }
  steps-settle =
      steps-seen 0 r.plan.steps (begin_grids r) ∙ ap (seen r are wide is_table) (sym (script-run (begin_grids r)) ∙ run_told r)
