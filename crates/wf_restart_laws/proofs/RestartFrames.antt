-- The restart frames of a run.
use Rattle.std.proofs.Common.{◌≡◌, inl, ℕ, suc, ◌+◌, ◌-◌, ◌*◌, ◌/◌, ◌≤◌, ◌<◌, Bool, true, false, cond, List, [], ◌∷◌, ◌++◌, map, length, Result, Ok, Err, refl, sym, ap, ◌∙◌, subst, arith, append_assoc, length-append}
use Rattle.std.proofs.lemmas.Bool.Decides.{nat_tests}
use Rattle.std.proofs.lemmas.List.{append-nil}
use Rattle.std.proofs.lemmas.List.Sums.{fold-append}
use Rattle.std.proofs.lemmas.List.Concat.{flat_map-append}
use Rattle.std.proofs.lemmas.List.Elements.{filter-append}
use Rattle.std.specs.Prelude.{fold, filter, flat_map, nat_lt, if◌then◌else◌}
use Rattle.std.specs.List.{range_with_len}
use Rattle.wf_model.specs.declared.frame.Frame.{Frame}
use Rattle.wf_model.specs.declared.script.Act.TheVariants.{Force, Feedback, Emit}
use Rattle.wf_model.specs.declared.script.Entry.{Entry}
use Rattle.wf_model.specs.Grids.{Grids}
use Rattle.wf_model.specs.Held.{stands_past}
use Rattle.wf_model.specs.Plans.{domain_of, begin_of, domains_of, children}
use Rattle.wf_model.specs.Script.{entry, not_before, restart_stream, begin_time, steps_by, has_started_by, starts, table, due_frames, start_frames, restart_frames, step_of}
use Rattle.wf_model.specs.Streams.{file_list}
use Rattle.wf_model.specs.Outcome.{RunData, Overflow, script, begin_grids, grids_after, grids_at, outcome_of}
use Rattle.wf_model.specs.Frames.{Output, output_at, outputs_from, frame_for, frames_from, frames_of, frames_written}
use Rattle.wf_model.specs.Sound.{IsDomain}
use Rattle.wf_model.specs.SoundRun.{IsSoundRun}
use Rattle.wf_laws.proofs.Members.{In, In-right, In-range, In-filter, In-filter_out, In-Contains}
use Rattle.wf_model.specs.Continued.{time_after, first_steps, place_after, steps_after, goes_on, IsRestartTime}
use Rattle.wf_cdf_laws.proofs.Frames.{Splits, splits}
use Rattle.wf_restart_laws.specs.SameFrames.{overflow_in_all}
use Rattle.wf_restart_laws.specs.Shifted.{step_entries}
use Rattle.wf_restart_laws.specs.Filed.{IsRestartFrame, RestartFramesAreWritten}
use Rattle.wf_restart_laws.proofs.Scripts.{split, range-split}
use Rattle.wf_restart_laws.proofs.SameTimes.{more_steps}
use Rattle.wf_restart_laws.proofs.ShiftedSteps.{map-append}
use Rattle.wf_restart_laws.proofs.ItemsAlike.{emit_after}
use Rattle.wf_restart_laws.proofs.Untouched.{grids_are}
use Rattle.wf_restart_laws.proofs.LaterFrames.{outputs-append, frames-append, written_are, comes_to, grids_behind}
use Rattle.wf_restart_laws.proofs.SameCalls.{plain, one_frame, found}

-- the restart frame of a domain
abbrev pub restart_entry : RunData → ℕ → ℕ → Entry
restart_entry r m d = entry d (steps_after r m d) (time_after r m) (Emit restart_stream)

-- the domains that go on
abbrev pub going : RunData → ℕ → List ℕ
going r m = filter (goes_on r m) (domains_of r.plan)

-- ---- they are the last items of the first steps

module _ (r : RunData) (m : ℕ) (sound : IsSoundRun r) (time : IsRestartTime r m) where
  abbrev sec : ℕ
  sec = (domain_of r.plan 1).seconds

  abbrev k : ℕ
  k = m - 1

  m_is : m ≡ suc k
  m_is = let some : 1 ≤ m = time.some in omega arith

  no_begin : begin_time r.plan r.initial.begins 1 ≡ 0
  no_begin = of (begin_of r.initial.begins 1).resumed
    where
      nb : not_before (domain_of r.plan 1).begins ≡ 0
      nb = ap not_before ((sound.ranged).first).begins

      of : (b : Bool) → (if b then 0 else not_before (domain_of r.plan 1).begins) ≡ 0
      of true = refl
      of false = nb

  end_is : k * sec + sec ≡ time_after r m
  end_is = whole k sec ∙ ap (λ n. n * sec) (sym m_is)
    where
      whole : (a b : ℕ) → a * b + b ≡ suc a * b
      whole a b = grind arith

  step_is : steps_by r.plan r.initial.begins 1 (k * sec) + 1 ≡ steps_after r m 1
  step_is =
      let some : 1 ≤ sec = (sound.sound).steps 1 (omega arith, (sound.sound).some) in
      let a : (k * sec + 0) / sec ≡ k + 0 / sec = more_steps 0 sec k some in
      let c : (suc k * sec + 0) / sec ≡ suc k + 0 / sec = more_steps 0 sec (suc k) some in
      (λ z. (begin_of r.initial.begins 1).steps + (k * sec - no_begin z) / sec + 1)
      ∙ number (begin_of r.initial.begins 1).steps (k * sec) (suc k * sec) sec k (0 / sec) a c
      ∙ sym ((λ z. (begin_of r.initial.begins 1).steps + (m_is z * sec - no_begin z) / sec))
    where
      number : (x a c n k z : ℕ) → (a + 0) / n ≡ k + z → (c + 0) / n ≡ suc k + z → x + (a - 0) / n + 1 ≡ x + (c - 0) / n
      number x a c n k z e f =
          let u : a - 0 ≡ a + 0 = omega arith in
          let v : c - 0 ≡ c + 0 = omega arith in
          omega (arith, e, f, ap (λ w. w / n) u, ap (λ w. w / n) v)

  last_step : (depth : ℕ) → (front : List Entry) × (step_of r.plan r.initial.begins (suc depth) 1 (k * sec) ≡ front ++ map (restart_entry r m) (going r m))
  unfolding step_of
  last_step depth =
      let t : ℕ = k * sec in
      let step : ℕ = steps_by r.plan r.initial.begins 1 t + 1 in
      let front : List Entry = ((starts r.plan r.initial.begins 1 t ++ table r.plan r.initial.begins 1 step t) ++ flat_map (λ y. if has_started_by r.plan r.initial.begins y t
      then entry y (steps_by r.plan r.initial.begins y t + 1) t Force
      ∷ (flat_map (λ n. step_of r.plan r.initial.begins depth y (t + n * (domain_of r.plan y).seconds)) (range_with_len 0 (domain_of r.plan y).time_ratio)
      ++ (if r.plan.feedback then entry y step t Feedback ∷ [] else []))
      else []) (children r.plan 1)) ++ due_frames r.plan r.initial.begins 1 step (t + sec) in (
        front,
        ap (λ (es : List Entry). front ++ es)
            ((λ z. restart_frames r.plan r.initial.begins (step_is z) (end_is z))
            ∙ (λ z. if time.due z then map (restart_entry r m) (going r m) else [])),
      )

  -- all the first steps
  pub first_split : (front : List Entry) × (first_steps r m ≡ front ++ map (restart_entry r m) (going r m))
  unfolding first_steps
  first_split =
      let begun : List Entry = if (begin_of r.initial.begins 1).resumed then [] else start_frames r.plan r.initial.begins 1 0 in
      let depth : ℕ = length r.plan.domains - 1 in
      let deep : length r.plan.domains ≡ suc depth = (let some : 1 ≤ length r.plan.domains = (sound.sound).some in omega arith) in
      let last = last_step depth in
      let before : List Entry = flat_map (step_entries r) (range_with_len 0 k) in
      let steps : flat_map (step_entries r) (range_with_len 0 m) ≡ before ++ (last.0 ++ map (restart_entry r m) (going r m))
      = ap (λ n. flat_map (step_entries r) (range_with_len 0 n)) (m_is ∙ one_more k)
      ∙ ap (flat_map (step_entries r)) (range-split 0 k 1)
      ∙ flat_map-append (step_entries r) (range_with_len 0 k) (range_with_len (0 + k) 1)
      ∙ ap (λ (es : List Entry). before ++ es) (append-nil (step_entries r (0 + k)) ∙ ap (step_entries r) (zero_left k) ∙ ap (λ n. step_of r.plan r.initial.begins n 1 (k * sec)) deep ∙ last.1) in (
        begun ++ (before ++ last.0),
        ap (λ (es : List Entry). begun ++ es) (steps ∙ sym (append_assoc before last.0 (map (restart_entry r m) (going r m)))) ∙ sym (append_assoc begun (before ++ last.0) (map (restart_entry r m) (going r m))),
      )
    where
      one_more : (n : ℕ) → suc n ≡ n + 1
      one_more n = omega arith

      zero_left : (n : ℕ) → 0 + n ≡ n
      zero_left n = omega arith

-- emits change nothing
pub still : (r : RunData) (m : ℕ) (ds : List ℕ) (g : Grids) → fold (grids_after r) g (map (restart_entry r m) ds) ≡ g
still r m [] g = refl
still r m (d ∷ ds) g = ap (λ x. fold (grids_after r) x (map (restart_entry r m) ds)) (emit_after r d (steps_after r m d) (time_after r m) restart_stream g) ∙ still r m ds g

-- a place before one that the run comes to
pub comes_before : (x : Result Grids Overflow) (n k : ℕ) → stands_past n x ≡ false → k < n → comes_to (overflow_in_all x) k ≡ true
comes_before (Ok g) n k h lt = refl
comes_before (Err o) n k h lt = below k o.place (omega (arith, lt, at_least o.place n h))
  where
    at_least : (a b : ℕ) → nat_lt a b ≡ false → b ≤ a
    at_least a b e = grind (arith, nat_tests)

    below : (a b : ℕ) → a < b → nat_lt a b ≡ true
    below a b e = grind (arith, nat_tests)

-- the frames of a script with a restart frame among its items
pub parts : (r : RunData) (before after : List Entry) (e : Entry) → e.act ≡ Emit restart_stream → script r ≡ before ++ (e ∷ after) → frames_from r.plan [] (outputs_from 0 (script r))
    ≡ frames_from r.plan [] (outputs_from 0 before) ++ (frame_for r.plan (outputs_from 0 before) (record { place = length before; stream = restart_stream; entry = e }) ∷ frames_from r.plan (outputs_from 0 before ++ (record { place = length before; stream = restart_stream; entry = e } ∷ [])) (outputs_from (length before + 1) after))
unfolding outputs_from frames_from
parts r before after e act all =
    let o : Output = record { place = length before; stream = restart_stream; entry = e } in
    ap (λ es. frames_from r.plan [] (outputs_from 0 es)) all
    ∙ ap (frames_from r.plan []) (outputs-append 0 before (e ∷ after) ∙ (λ z. outputs_from 0 before ++ (output_at (zero_left (length before) z) e (act z) ++ outputs_from (zero_left (length before) z + 1) after)))
    ∙ frames-append r.plan [] (outputs_from 0 before) (o ∷ outputs_from (length before + 1) after)
  where
    zero_left : (n : ℕ) → 0 + n ≡ n
    zero_left n = omega arith

-- a restart frame stands among the frames that are written, between those of the items before it and after it
pub record IsPlaced (r : RunData) (m d : ℕ) : Type 0 where
  pub before : List Entry
  pub rest : List ℕ
  pub frame : Frame
  pub is : IsRestartFrame r m d frame
  pub others : (domains : List ℕ) × (going r m ≡ domains ++ (d ∷ rest))
  pub split_at : script r ≡ before ++ (restart_entry r m d ∷ (map (restart_entry r m) rest ++ flat_map (λ n. step_entries r (m + n)) (range_with_len 0 (r.plan.steps - m))))
  pub front : List Frame
  pub back : List Frame
  pub among : frames_written r ≡ front ++ (frame ∷ back)
  pub behind : (f : Frame) → In f back → In f (frames_from r.plan (outputs_from 0 before ++ (record { place = length before; stream = restart_stream; entry = restart_entry r m d } ∷ []))
      (outputs_from (length before + 1) (map (restart_entry r m) rest ++ flat_map (λ n. step_entries r (m + n)) (range_with_len 0 (r.plan.steps - m)))))

pub placed_frame : (r : RunData) (m d : ℕ) → IsSoundRun r → IsRestartTime r m → IsDomain r.plan d → goes_on r m d ≡ true → IsPlaced r m d
unfolding frames_of
placed_frame r m d sound time dom on =
    let first = first_split r m sound time in
    let in_going : In d (going r m) = In-filter (goes_on r m) d (domains_of r.plan) (In-range d 1 (length r.plan.domains) dom.0 (omega (arith, dom.1))) on in
    let s : Splits d (going r m) = splits d (going r m) in_going in
    let before : List Entry = first.0 ++ map (restart_entry r m) s.before in
    let after : List Entry = map (restart_entry r m) s.after ++ flat_map (λ n. step_entries r (m + n)) (range_with_len 0 (r.plan.steps - m)) in
    let firsts : first_steps r m ≡ before ++ (restart_entry r m d ∷ map (restart_entry r m) s.after)
    = first.1 ∙ ap (λ ds. first.0 ++ map (restart_entry r m) ds) s.is ∙ ap (λ (es : List Entry). first.0 ++ es) (map-append (restart_entry r m) s.before (d ∷ s.after))
    ∙ sym (append_assoc first.0 (map (restart_entry r m) s.before) (restart_entry r m d ∷ map (restart_entry r m) s.after)) in
    let all : script r ≡ before ++ (restart_entry r m d ∷ after)
    = split r m time.within ∙ ap (λ (es : List Entry). es ++ flat_map (λ n. step_entries r (m + n)) (range_with_len 0 (r.plan.steps - m))) firsts
    ∙ append_assoc before (restart_entry r m d ∷ map (restart_entry r m) s.after) (flat_map (λ n. step_entries r (m + n)) (range_with_len 0 (r.plan.steps - m))) in
    let o : Output = record { place = length before; stream = restart_stream; entry = restart_entry r m d } in
    let earlier : List Output = outputs_from 0 before in
    let frame : Frame = frame_for r.plan earlier o in
    let is : frame ≡ plain r.plan (length earlier) o = one_frame r.plan earlier o refl in
    let frames : frames_from r.plan [] (outputs_from 0 (script r)) ≡ frames_from r.plan [] earlier ++ (frame ∷ frames_from r.plan (earlier ++ (o ∷ [])) (outputs_from (length before + 1) after)) = parts r before after (restart_entry r m d) refl all in
    let within : length before < place_after r m = short before (restart_entry r m d) (map (restart_entry r m) s.after) (first_steps r m) firsts in
    let there : In frame (frames_from r.plan [] (outputs_from 0 (script r))) = subst (λ (fs : List Frame). In frame fs) (sym frames) (In-right frame (frames_from r.plan [] earlier) (frame ∷ frames_from r.plan (earlier ++ (o ∷ [])) (outputs_from (length before + 1) after)) (inl refl)) in
    let kept : In frame (frames_written r)
    = subst (λ (fs : List Frame). In frame fs) (sym (written_are (outcome_of r) (frames_from r.plan [] (outputs_from 0 (script r)))))
    (In-filter (λ (f : Frame). comes_to (overflow_in_all (outcome_of r)) f.place) frame (frames_from r.plan [] (outputs_from 0 (script r))) there (comes_before (outcome_of r) (place_after r m) (length before) time.reached within)) in
    let grids : grids_at r (length before) ≡ grids_at r (place_after r m)
    = grids_behind r before (restart_entry r m d ∷ after) all
    ∙ fold-append (grids_after r) (begin_grids r) first.0 (map (restart_entry r m) s.before) ∙ still r m s.before (fold (grids_after r) (begin_grids r) first.0)
    ∙ sym (grids_are r m time.within ∙ ap (fold (grids_after r) (begin_grids r)) first.1 ∙ fold-append (grids_after r) (begin_grids r) first.0 (map (restart_entry r m) (going r m)) ∙ still r m (going r m) (fold (grids_after r) (begin_grids r) first.0)) in
    let whole : IsRestartFrame r m d frame = record {
      written = In-Contains frame (frames_written r) kept;
      domain = refl;
      stream = refl;
      time = refl;
      file = ap (λ (f : Frame). f.file) is;
      first = ap (λ (f : Frame). f.first) is;
      rec = ap (λ (f : Frame). f.rec) is;
      steps = ap (λ (e : Entry). e.step) (found r before after (restart_entry r m d) all);
      slabs = λ f. ap (file_list r.plan d f) grids;
    } in
    let c : Frame → Bool = λ f. comes_to (overflow_in_all (outcome_of r)) f.place in
    let back : List Frame = frames_from r.plan (earlier ++ (o ∷ [])) (outputs_from (length before + 1) after) in
    record {
      before = before;
      rest = s.after;
      frame = frame;
      is = whole;
      others = (s.before, s.is);
      split_at = all;
      front = filter c (frames_from r.plan [] earlier);
      back = filter c back;
      among = written_are (outcome_of r) (frames_from r.plan [] (outputs_from 0 (script r))) ∙ ap (filter c) frames ∙ filter-append c (frames_from r.plan [] earlier) (frame ∷ back)
          ∙ (λ z. filter c (frames_from r.plan [] earlier) ++ cond (comes_before (outcome_of r) (place_after r m) (length before) time.reached within z) (frame ∷ filter c back) (filter c back));
      behind = λ f i. (In-filter_out c f back i).0;
    }
  where
    short : (xs : List Entry) (x : Entry) (ys zs : List Entry) → zs ≡ xs ++ (x ∷ ys) → length xs < length zs
    short xs x ys zs e = let l : length zs ≡ length xs + length (x ∷ ys) = ap length e ∙ length-append xs (x ∷ ys) in let n : length (x ∷ ys) ≡ suc (length ys) = refl in omega (arith, l, n)

pub frames_are_written : RestartFramesAreWritten
frames_are_written r m d sound time dom on = let x : IsPlaced r m d = placed_frame r m d sound time dom on in (x.frame, x.is)
