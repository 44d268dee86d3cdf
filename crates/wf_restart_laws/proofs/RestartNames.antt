-- The names of restart files, and which items of a script have them.
use Rattle.std.proofs.Common.{◌≡◌, ◌⊎◌, inl, inr, ⊎_elim, ℕ, zero, suc, ◌+◌, ◌*◌, ◌/◌, ◌%◌, ◌≤◌, ◌<◌, Bool, true, false, List, [], ◌∷◌, ◌++◌, map, length, drop, get_or, refl, sym, ap, ◌∙◌, subst, arith}
use Rattle.std.proofs.Math.Nat.{mul-le-mul_right}
use Rattle.std.proofs.lemmas.Bool.Decides.{nat_tests}
use Rattle.std.specs.Prelude.{◌==◌, ◌||◌, filter, flat_map, nat_lt, codes, slice_index, if◌then◌else◌}
use Rattle.std.specs.List.{range_with_len}
use Rattle.wf_model.specs.declared.frame.Frame.{Frame}
use Rattle.wf_model.specs.declared.initial.Begin.{Begin}
use Rattle.wf_model.specs.declared.plan.Plan.{Plan}
use Rattle.wf_model.specs.declared.script.Act.{Act}
use Rattle.wf_model.specs.declared.script.Act.TheVariants.{Start, Force, Feedback, Table, Emit}
use Rattle.wf_model.specs.declared.script.Entry.{Entry}
use Rattle.wf_model.specs.Calendar.{two_digits, time_text}
use Rattle.wf_model.specs.Plans.{domain_of, begin_of, domains_of, children}
use Rattle.wf_model.specs.Script.{entry, interval, is_due, restart_stream, begin_time, steps_by, starts_at, has_started_by, start_frames, due_frames, starts, table, restart_frames, step_of, script_of}
use Rattle.wf_model.specs.Streams.{file_name}
use Rattle.wf_model.specs.Outcome.{RunData, script}
use Rattle.wf_model.specs.Frames.{Output, output_at, outputs_from, frame_for, frames_from, frames_of}
use Rattle.wf_model.specs.Sound.{IsDomain}
use Rattle.wf_model.specs.SoundRun.{IsSoundRun}
use Rattle.wf_laws.proofs.Bools.{split_bool, differ, equal_of}
use Rattle.wf_laws.proofs.Members.{In, In-range_out, In-filter_out, Contains-In}
use Rattle.wf_laws.proofs.ScriptTurns.{IsChild, child_of}
use Rattle.wf_model.specs.Continued.{time_after, goes_on}
use Rattle.wf_restart_laws.specs.Times.{IsInYears}
use Rattle.wf_restart_laws.specs.Filed.{restart_name, RestartFilesAreApart}
use Rattle.wf_restart_laws.proofs.Texts.{apart}
use Rattle.wf_restart_laws.proofs.LaterFrames.{in_years}
use Rattle.wf_restart_laws.proofs.SameCalls.{one_frame}

-- ---- names

-- another stream's file has another name
name_other : (stream d e : ℕ) (x y : List ℕ) → (stream == restart_stream) ≡ false → file_name stream d x ≡ file_name restart_stream e y → ⊥
name_other stream d e x y other same = ⊎_elim
    (λ z. fourth 111 114 refl refl (ap (λ l. get_or l 3 0) ((λ i. (if sym z i then codes "wrfout" else (if stream == restart_stream then codes "wrfrst" else (codes "auxhist" ++ ((48 + stream) ∷ [])))) ++ codes "_d" ++ two_digits d ++ codes "_" ++ x) ∙ same)))
    (λ z. first 97 119 refl refl (ap (λ l. get_or l 0 0) ((λ i. (if sym z i then codes "wrfout" else (if sym other i then codes "wrfrst" else (codes "auxhist" ++ ((48 + stream) ∷ [])))) ++ codes "_d" ++ two_digits d ++ codes "_" ++ x) ∙ same)))
    (split_bool (stream == 0))
  where
    fourth : (a b : ℕ) → a ≡ 111 → b ≡ 114 → a ≡ b → ⊥
    fourth a b p q e = omega (arith, p, q, e)

    first : (a b : ℕ) → a ≡ 97 → b ≡ 119 → a ≡ b → ⊥
    first a b p q e = omega (arith, p, q, e)

-- a restart file's name tells its domain and its time
name_same : (d e : ℕ) (x y : List ℕ) → file_name restart_stream d x ≡ file_name restart_stream e y → (d ≡ e) × (x ≡ y)
name_same d e x y same =
    let tens : 48 + d / 10 ≡ 48 + e / 10 = ap (λ l. get_or l 8 0) same in
    let ones : 48 + d % 10 ≡ 48 + e % 10 = ap (λ l. get_or l 9 0) same in
    (omega (arith, tens, ones), ap (λ (l : List ℕ). drop 11 l) same)

-- ---- which items are restart frames

abbrev pub is_restart : Act → Bool
is_restart Start = false
is_restart Force = false
is_restart Feedback = false
is_restart (Table n) = false
is_restart (Emit n) = n == restart_stream

module _ (P : Entry → Type 0) (plain : (e : Entry) → is_restart e.act ≡ false → P e) (plan : Plan) (begins : List Begin) where
  -- so of each entry
  abbrev pub Every : List Entry → Type 0
  Every [] = Unit {0}
  Every (e ∷ es) = P e × Every es

  every_both : (es fs : List Entry) → Every es → Every fs → Every (es ++ fs)
  every_both [] fs a b = b
  every_both (e ∷ es) fs a b = (a.0, every_both es fs a.1 b)

  every_if : (t : Bool) (es : List Entry) → Every es → Every (if t then es else [])
  every_if true es a = a
  every_if false es a = tt

  pub every_flat : (f : ℕ → List Entry) (xs : List ℕ) → ((x : ℕ) → In x xs → Every (f x)) → Every (flat_map f xs)
  every_flat f [] k = tt
  every_flat f (x ∷ xs) k = every_both (f x) (flat_map f xs) (k x (inl refl)) (every_flat f xs (λ y i. k y (inr i)))

  every_map : (f : ℕ → Entry) (xs : List ℕ) → ((x : ℕ) → In x xs → P (f x)) → Every (map f xs)
  every_map f [] k = tt
  every_map f (x ∷ xs) k = (k x (inl refl), every_map f xs (λ y i. k y (inr i)))

  every_at : (done es : List Entry) (e : Entry) → Every (done ++ (e ∷ es)) → P e
  every_at [] es e a = a.0
  every_at (d ∷ done) es e a = every_at done es e a.1

  pub every_in : (es : List Entry) (e : Entry) → Every es → In e es → P e
  every_in [] e a i = absurd i
  every_in (d ∷ es) e a i = ⊎_elim (λ w. subst (λ (x : Entry). P x) (sym w) a.0) (λ j. every_in es e a.1 j) i

  stream_frames : (d step t : ℕ) (test : ℕ → Bool) → Every (map (λ a. entry d step t (Emit a)) (filter test (range_with_len 0 10)))
  stream_frames d step t test = every_map (λ a. entry d step t (Emit a)) (filter test (range_with_len 0 10)) (λ a i. let l = In-range_out a 0 10 (In-filter_out test a (range_with_len 0 10) i).0 in plain (entry d step t (Emit a)) (low a l.1))
    where
      low : (a : ℕ) → a < 0 + 10 → (a == 10) ≡ false
      low a h = let lt : a < 10 = omega (arith, h) in grind (arith, nat_tests)

  -- the restart frames of a time
  abbrev pub known_then : ℕ → ℕ → Bool
  known_then t y = (begin_of begins y).resumed || nat_lt (begin_time plan begins y) t

  abbrev pub AtEnd : ℕ → Type 0
  AtEnd t = (y : ℕ) → In y (filter (known_then t) (domains_of plan)) → P (entry y (steps_by plan begins y t) t (Emit restart_stream))

  pub every_step : (depth d t : ℕ) → (d ≡ 1 → AtEnd (t + (domain_of plan d).seconds)) → Every (step_of plan begins depth d t)
  unfolding step_of
  every_step zero d t last = tt
  every_step (suc depth) d t last =
      let step : ℕ = steps_by plan begins d t + 1 in
      let end : ℕ = t + (domain_of plan d).seconds in
      let nest : ℕ → List Entry = λ y. if has_started_by plan begins y t
      then entry y (steps_by plan begins y t + 1) t Force
      ∷ (flat_map (λ n. step_of plan begins depth y (t + n * (domain_of plan y).seconds)) (range_with_len 0 (domain_of plan y).time_ratio)
      ++ (if plan.feedback then entry y step t Feedback ∷ [] else []))
      else [] in
      let nests : List Entry = flat_map nest (children plan d) in
      every_both (((starts plan begins d t ++ table plan begins d step t) ++ nests) ++ due_frames plan begins d step end) (if d == 1 then restart_frames plan begins step end else [])
      (every_both ((starts plan begins d t ++ table plan begins d step t) ++ nests) (due_frames plan begins d step end)
      (every_both (starts plan begins d t ++ table plan begins d step t) nests
      (every_both (starts plan begins d t) (table plan begins d step t)
      (every_flat (λ y. if starts_at plan begins y t then entry y 0 t Start ∷ start_frames plan begins y t else []) (children plan d) (λ y i.
      every_if (starts_at plan begins y t) (entry y 0 t Start ∷ start_frames plan begins y t) (plain (entry y 0 t Start) refl, stream_frames y 0 t (λ a. nat_lt 0 (interval plan begins y a)))))
      (every_map (λ n. entry d step t (Table n)) (range_with_len 0 (length plan.items)) (λ n i. plain (entry d step t (Table n)) refl)))
      (every_flat nest (children plan d) (λ y i.
      let k : IsChild plan d y = child_of plan d y i in
      let steps : List Entry = flat_map (λ n. step_of plan begins depth y (t + n * (domain_of plan y).seconds)) (range_with_len 0 (domain_of plan y).time_ratio) in
      let back : List Entry = if plan.feedback then entry y step t Feedback ∷ [] else [] in
      every_if (has_started_by plan begins y t) (entry y (steps_by plan begins y t + 1) t Force ∷ (steps ++ back)) (
        plain (entry y (steps_by plan begins y t + 1) t Force) refl,
        every_both steps back
            (every_flat (λ n. step_of plan begins depth y (t + n * (domain_of plan y).seconds)) (range_with_len 0 (domain_of plan y).time_ratio) (λ n j. every_step depth y (t + n * (domain_of plan y).seconds) (λ e. absurd (above y k.nest e))))
            (every_if plan.feedback (entry y step t Feedback ∷ []) (plain (entry y step t Feedback) refl, tt)),
      ))))
      (stream_frames d step end (λ a. is_due (interval plan begins d a) step)))
      (ends (d == 1) refl step end refl)
    where
      above : (y : ℕ) → 1 < y → y ≡ 1 → ⊥
      above y h e = omega arith

      ends : (b : Bool) → (d == 1) ≡ b → (step end : ℕ) → end ≡ t + (domain_of plan d).seconds → Every (if b then restart_frames plan begins step end else [])
      ends false e step end is = tt
      ends true e step end is =
          every_if (is_due plan.restart_steps step) (map (λ y. entry y (steps_by plan begins y end) end (Emit restart_stream)) (filter (known_then end) (domains_of plan)))
          (every_map (λ y. entry y (steps_by plan begins y end) end (Emit restart_stream)) (filter (known_then end) (domains_of plan)) (subst AtEnd (sym is) (last (equal_of d 1 e))))

  -- of all steps
  every_steps : (k n : ℕ) → ((j : ℕ) → k ≤ j → j < k + n → AtEnd (j * (domain_of plan 1).seconds + (domain_of plan 1).seconds)) → Every (flat_map (λ j. step_of plan begins (length plan.domains) 1 (j * (domain_of plan 1).seconds)) (range_with_len k n))
  every_steps k n each = every_flat (λ j. step_of plan begins (length plan.domains) 1 (j * (domain_of plan 1).seconds)) (range_with_len k n)
      (λ j i. let l = In-range_out j k n i in every_step (length plan.domains) 1 (j * (domain_of plan 1).seconds) (λ e. each j l.0 l.1))

  every_script : ((j : ℕ) → j < plan.steps → AtEnd (j * (domain_of plan 1).seconds + (domain_of plan 1).seconds)) → Every (script_of plan begins)
  unfolding script_of
  every_script each = every_both (if (begin_of begins 1).resumed then [] else start_frames plan begins 1 0) (flat_map (λ j. step_of plan begins (length plan.domains) 1 (j * (domain_of plan 1).seconds)) (range_with_len 0 plan.steps))
      (first (begin_of begins 1).resumed) (every_steps 0 plan.steps (λ j low high. each j (omega (arith, high))))
    where
      first : (res : Bool) → Every (if res then [] else start_frames plan begins 1 0)
      first true = tt
      first false = stream_frames 1 0 0 (λ a. nat_lt 0 (interval plan begins 1 a))

-- ---- outputs and frames

-- an output is of an entry that is a frame
pub output_of : (n : ℕ) (es : List Entry) (o : Output) → In o (outputs_from n es) → In o.entry es × (o.entry.act ≡ Emit o.stream)
unfolding outputs_from
output_of n [] o i = absurd i
output_of n (e ∷ es) o i = ⊎_elim (λ j. here e.act refl j) (λ j. let w = output_of (n + 1) es o j in (inr w.0, w.1)) (either (output_at n e e.act) (outputs_from (n + 1) es) i)
  where
    either : (xs ys : List Output) → In o (xs ++ ys) → In o xs ⊎ In o ys
    either [] ys j = inr j
    either (x ∷ xs) ys j = ⊎_elim (λ e. inl (inl e)) (λ t. ⊎_elim (λ u. inl (inr u)) (λ u. inr u) (either xs ys t)) j

    here : (a : Act) → e.act ≡ a → In o (output_at n e a) → In o.entry (e ∷ es) × (o.entry.act ≡ Emit o.stream)
    here Start is j = absurd j
    here Force is j = absurd j
    here Feedback is j = absurd j
    here (Table k) is j = absurd j
    here (Emit k) is j = ⊎_elim (λ w. (inl (ap (λ (x : Output). x.entry) w), ap (λ (x : Output). x.entry.act) w ∙ is ∙ sym (ap (λ (x : Output). Emit x.stream) w))) (λ w. absurd w) j

-- a frame is of an output
pub frame_of_output : (plan : Plan) (before os : List Output) (f : Frame) → In f (frames_from plan before os) → (earlier : List Output) × (o : Output) × In o os × (f ≡ frame_for plan earlier o)
unfolding frames_from
frame_of_output plan before [] f i = absurd i
frame_of_output plan before (o ∷ os) f i = ⊎_elim (λ e. (before, o, inl refl, e)) (λ j. let w = frame_of_output plan (before ++ (o ∷ [])) os f j in (w.0, w.1, inr w.2, w.3)) i

-- ---- no other frame has the name of a restart file

-- what is known of a restart frame
abbrev Marked : RunData → Entry → Type 0
Marked r e = is_restart e.act ≡ true → (known_then (λ x. Unit {0}) (λ x h. tt) r.plan r.initial.begins e.time e.domain ≡ true) × IsDomain r.plan e.domain × (e.time ≤ r.plan.steps * (domain_of r.plan 1).seconds)

all_marked : (r : RunData) (e : Entry) → In e (script r) → Marked r e
all_marked r e i = every_in (Marked r) none r.plan r.initial.begins (script r) e (every_script (Marked r) none r.plan r.initial.begins (λ j lt y k h.
    let w = In-filter_out (λ z. (begin_of r.initial.begins z).resumed || nat_lt (begin_time r.plan r.initial.begins z) (j * (domain_of r.plan 1).seconds + (domain_of r.plan 1).seconds)) y (domains_of r.plan) k in
    let l = In-range_out y 1 (length r.plan.domains) w.0 in
    (w.1, (l.0, omega (arith, l.1)), within j r.plan.steps (domain_of r.plan 1).seconds lt))) i
  where
    none : (e : Entry) → is_restart e.act ≡ false → Marked r e
    none e h t = absurd (differ (sym t ∙ h))

    within : (j n a : ℕ) → j < n → j * a + a ≤ n * a
    within j n a lt =
        let many : suc j * a ≤ n * a = mul-le-mul_right a (omega (arith, lt)) in
        let one : suc j * a ≡ j * a + a = grind arith in
        omega (arith, many, one)

-- a time of the run lies within the years
run_years : (r : RunData) (n : ℕ) → IsSoundRun r → n ≤ r.plan.steps * (domain_of r.plan 1).seconds → IsInYears r.plan.start n
run_years r n sound le = record { stamp = ((sound.ranged).time).start; within = omega (arith, le, ((sound.ranged).time).finish) }

-- an output whose frame has the name
pub record IsNamed (r : RunData) (m d : ℕ) (o : Output) : Type 0 where
  pub going : goes_on r m d ≡ true
  pub stream : o.stream ≡ restart_stream
  pub domain : o.entry.domain ≡ d
  pub time : o.entry.time ≡ time_after r m

pub named : (r : RunData) (m d : ℕ) (earlier : List Output) (o : Output) → IsSoundRun r → m ≤ r.plan.steps → In o (outputs_from 0 (script r)) → (frame_for r.plan earlier o).file ≡ restart_name r m d → IsNamed r m d o
named r m d earlier o sound within there same = elim (split_bool (o.stream == restart_stream)) [
  | inl s ↦
      let v = output_of 0 (script r) o there in
      let is : o.stream ≡ restart_stream = equal_of o.stream restart_stream s in
      let k = all_marked r o.entry v.0 (ap (λ (a : Act). is_restart a) v.1 ∙ s) in
      let one : (frame_for r.plan earlier o).file ≡ file_name o.stream o.entry.domain (time_text r.plan.start o.entry.time) = ap (λ (f : Frame). f.file) (one_frame r.plan earlier o (λ z. if s z then 1 else slice_index (domain_of r.plan o.entry.domain).frames o.stream)) in
      let w = name_same o.entry.domain d (time_text r.plan.start o.entry.time) (time_text r.plan.start (time_after r m)) (ap (λ n. file_name n o.entry.domain (time_text r.plan.start o.entry.time)) (sym is) ∙ sym one ∙ same) in
      let t : o.entry.time ≡ time_after r m = apart r.plan.start o.entry.time (time_after r m) (run_years r o.entry.time sound k.2) (in_years r m sound within) w.1 in
      record { going = (λ z. (begin_of r.initial.begins (sym w.0 z)).resumed || nat_lt (begin_time r.plan r.initial.begins (sym w.0 z)) (sym t z)) ∙ k.0; stream = is; domain = w.0; time = t }
  | inr s ↦ absurd (name_other o.stream o.entry.domain d _ (time_text r.plan.start (time_after r m)) s same)
]

pub files_apart : RestartFilesAreApart
unfolding frames_of
files_apart r m d frame sound time dom there same =
    let w = frame_of_output r.plan [] (outputs_from 0 (script r)) frame (Contains-In frame (frames_from r.plan [] (outputs_from 0 (script r))) there) in
    let n : IsNamed r m d w.1 = named r m d w.0 w.1 sound time.within w.2 (sym (ap (λ (f : Frame). f.file) w.3) ∙ same) in
    (n.going, ap (λ (f : Frame). f.domain) w.3 ∙ n.domain, ap (λ (f : Frame). f.stream) w.3 ∙ n.stream, ap (λ (f : Frame). f.time) w.3 ∙ ap (time_text r.plan.start) n.time)
