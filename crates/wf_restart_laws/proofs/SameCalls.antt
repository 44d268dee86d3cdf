-- The calls of a run that goes on, where each file takes one frame.
use Rattle.std.proofs.Common.{◌≡◌, inl, inr, ℕ, zero, suc, ◌+◌, ◌-◌, ◌*◌, ◌%◌, ◌≤◌, ◌<◌, Bool, true, false, List, [], ◌∷◌, ◌++◌, map, length, get_or, refl, sym, ap, ◌∙◌, subst, arith}
use Rattle.std.specs.Prelude.{◌==◌, ◌||◌, nat_lt, fold, filter, flat_map, slice_index, if◌then◌else◌}
use Rattle.std.specs.List.{range_with_len}
use Rattle.wf_model.specs.declared.frame.Frame.{Frame}
use Rattle.wf_model.specs.declared.header.Header.{Header}
use Rattle.wf_model.specs.declared.initial.Begin.{Begin}
use Rattle.wf_model.specs.declared.plan.Plan.{Plan}
use Rattle.wf_model.specs.declared.script.Act.{Act}
use Rattle.wf_model.specs.declared.script.Act.TheVariants.{Start, Force, Feedback, Table, Emit}
use Rattle.wf_model.specs.declared.script.Entry.{Entry}
use Rattle.wf_model.specs.Bytes.{four_bytes, slab_bytes, char_bytes, header_bytes}
use Rattle.wf_model.specs.Calendar.{time_text}
use Rattle.wf_model.specs.Files.{StoreCall, create, append, write_at}
use Rattle.wf_model.specs.Frames.{Output, is_like, frame_for, frames_written}
use Rattle.wf_model.specs.Headers.{file_header, placed}
use Rattle.wf_model.specs.Outcome.{RunData, script, no_entry, entry_at, begin_grids, grids_after}
use Rattle.wf_model.specs.Plans.{domain_of, begin_of, domains_of, children}
use Rattle.wf_model.specs.Script.{entry, interval, is_due, restart_stream, begin_time, steps_by, starts_at, has_started_by, start_frames, due_frames, starts, table, restart_frames, step_of, script_of}
use Rattle.wf_model.specs.Sound.{IsDomain}
use Rattle.wf_model.specs.Streams.{frames_per_file, file_name}
use Rattle.wf_model.specs.Writes.{header_of, record_of, frame_calls, writes_of}
use Rattle.wf_laws.proofs.Bools.{split_bool, if_true, if_false}
use Rattle.wf_laws.proofs.Members.{In, In-range_out, In-filter_out}
use Rattle.wf_laws.proofs.ScriptTurns.{IsChild, child_of}
use Rattle.wf_model.specs.Continued.{time_after, goes_on, IsContinuedBy}
use Rattle.wf_restart_laws.specs.Shifted.{later_by}
use Rattle.wf_restart_laws.specs.Agrees.{GoesAlike}
use Rattle.wf_restart_laws.specs.SameFrames.{later_frames, HasOneFrameFiles, ContinuedRunsWriteTheSameCalls}
use Rattle.wf_restart_laws.proofs.AlikePlans.{file_header_is, stream_levels_are}
use Rattle.wf_restart_laws.proofs.SameTimes.{alike, goes, waits}
use Rattle.wf_restart_laws.proofs.LaterFrames.{all_seen, same_text, slabs_alike}

-- ---- the entries of a script are of its domains, and its frames of eleven streams

module _ (plan : Plan) (begins : List Begin) where
  pub record IsKnown (e : Entry) : Type 0 where
    pub domain : IsDomain plan e.domain
    pub stream : (n : ℕ) → e.act ≡ Emit n → n ≤ restart_stream

  abbrev pub AllKnown : List Entry → Type 0
  AllKnown [] = Unit {0}
  AllKnown (e ∷ es) = IsKnown e × AllKnown es

  known_both : (es fs : List Entry) → AllKnown es → AllKnown fs → AllKnown (es ++ fs)
  known_both [] fs a b = b
  known_both (e ∷ es) fs a b = (a.0, known_both es fs a.1 b)

  known_if : (t : Bool) (es : List Entry) → AllKnown es → AllKnown (if t then es else [])
  known_if true es a = a
  known_if false es a = tt

  known_flat : (f : ℕ → List Entry) (xs : List ℕ) → ((x : ℕ) → In x xs → AllKnown (f x)) → AllKnown (flat_map f xs)
  known_flat f [] k = tt
  known_flat f (x ∷ xs) k = known_both (f x) (flat_map f xs) (k x (inl refl)) (known_flat f xs (λ y i. k y (inr i)))

  known_map : (f : ℕ → Entry) (xs : List ℕ) → ((x : ℕ) → In x xs → IsKnown (f x)) → AllKnown (map f xs)
  known_map f [] k = tt
  known_map f (x ∷ xs) k = (k x (inl refl), known_map f xs (λ y i. k y (inr i)))

  stream_of : Act → ℕ
  stream_of Start = 0
  stream_of Force = 0
  stream_of Feedback = 0
  stream_of (Table n) = 0
  stream_of (Emit n) = n

  -- by the entry's own stream, or 0
  known : (e : Entry) → IsDomain plan e.domain → stream_of e.act ≤ restart_stream → IsKnown e
  unfolding stream_of
  known e dom le = record { domain = dom; stream = λ n is. let same : stream_of e.act ≡ n = ap stream_of is in omega (arith, same, le) }

  known_frames : (d step t : ℕ) (test : ℕ → Bool) → IsDomain plan d → AllKnown (map (λ a. entry d step t (Emit a)) (filter test (range_with_len 0 10)))
  unfolding stream_of
  known_frames d step t test dom = known_map (λ a. entry d step t (Emit a)) (filter test (range_with_len 0 10)) (λ a i. let l = In-range_out a 0 10 (In-filter_out test a (range_with_len 0 10) i).0 in known (entry d step t (Emit a)) dom (omega (arith, l.1)))

  known_step : (depth d t : ℕ) → IsDomain plan d → AllKnown (step_of plan begins depth d t)
  unfolding step_of stream_of
  known_step zero d t dom = tt
  known_step (suc depth) d t dom =
      let step : ℕ = steps_by plan begins d t + 1 in
      let end : ℕ = t + (domain_of plan d).seconds in
      let nest : ℕ → List Entry = λ y. if has_started_by plan begins y t
      then entry y (steps_by plan begins y t + 1) t Force
      ∷ (flat_map (λ n. step_of plan begins depth y (t + n * (domain_of plan y).seconds)) (range_with_len 0 (domain_of plan y).time_ratio)
      ++ (if plan.feedback then entry y step t Feedback ∷ [] else []))
      else [] in
      let nests : List Entry = flat_map nest (children plan d) in
      known_both (((starts plan begins d t ++ table plan begins d step t) ++ nests) ++ due_frames plan begins d step end) (if d == 1 then restart_frames plan begins step end else [])
      (known_both ((starts plan begins d t ++ table plan begins d step t) ++ nests) (due_frames plan begins d step end)
      (known_both (starts plan begins d t ++ table plan begins d step t) nests
      (known_both (starts plan begins d t) (table plan begins d step t)
      (known_flat (λ y. if starts_at plan begins y t then entry y 0 t Start ∷ start_frames plan begins y t else []) (children plan d) (λ y i.
      let k : IsChild plan d y = child_of plan d y i in
      known_if (starts_at plan begins y t) (entry y 0 t Start ∷ start_frames plan begins y t) (known (entry y 0 t Start) k.domain (omega arith), known_frames y 0 t (λ a. nat_lt 0 (interval plan begins y a)) k.domain)))
      (known_map (λ n. entry d step t (Table n)) (range_with_len 0 (length plan.items)) (λ n i. known (entry d step t (Table n)) dom (omega arith))))
      (known_flat nest (children plan d) (λ y i.
      let k : IsChild plan d y = child_of plan d y i in
      let steps : List Entry = flat_map (λ n. step_of plan begins depth y (t + n * (domain_of plan y).seconds)) (range_with_len 0 (domain_of plan y).time_ratio) in
      let back : List Entry = if plan.feedback then entry y step t Feedback ∷ [] else [] in
      known_if (has_started_by plan begins y t) (entry y (steps_by plan begins y t + 1) t Force ∷ (steps ++ back)) (
        known (entry y (steps_by plan begins y t + 1) t Force) k.domain (omega arith),
        known_both steps back
            (known_flat (λ n. step_of plan begins depth y (t + n * (domain_of plan y).seconds)) (range_with_len 0 (domain_of plan y).time_ratio) (λ n j. known_step depth y (t + n * (domain_of plan y).seconds) k.domain))
            (known_if plan.feedback (entry y step t Feedback ∷ []) (known (entry y step t Feedback) k.domain (omega arith), tt)),
      ))))
      (known_frames d step end (λ a. is_due (interval plan begins d a) step) dom))
      (known_if (d == 1) (restart_frames plan begins step end)
      (known_if (is_due plan.restart_steps step) (map (λ y. entry y (steps_by plan begins y end) end (Emit restart_stream)) (filter (λ y. (begin_of begins y).resumed || nat_lt (begin_time plan begins y) end) (domains_of plan)))
      (known_map (λ y. entry y (steps_by plan begins y end) end (Emit restart_stream)) (filter (λ y. (begin_of begins y).resumed || nat_lt (begin_time plan begins y) end) (domains_of plan)) (λ y i.
      let l = In-range_out y 1 (length plan.domains) (In-filter_out (λ y. (begin_of begins y).resumed || nat_lt (begin_time plan begins y) end) y (domains_of plan) i).0 in
      known (entry y (steps_by plan begins y end) end (Emit restart_stream)) (l.0, omega (arith, l.1)) (omega arith)))))

  pub known_script : IsDomain plan 1 → AllKnown (script_of plan begins)
  unfolding script_of
  known_script dom =
      known_both (if (begin_of begins 1).resumed then [] else start_frames plan begins 1 0) (flat_map (λ n. step_of plan begins (length plan.domains) 1 (n * (domain_of plan 1).seconds)) (range_with_len 0 plan.steps))
      (first (begin_of begins 1).resumed)
      (known_flat (λ n. step_of plan begins (length plan.domains) 1 (n * (domain_of plan 1).seconds)) (range_with_len 0 plan.steps) (λ n i. known_step (length plan.domains) 1 (n * (domain_of plan 1).seconds) dom))
    where
      first : (res : Bool) → AllKnown (if res then [] else start_frames plan begins 1 0)
      first true = tt
      first false = known_frames 1 0 0 (λ a. nat_lt 0 (interval plan begins 1 a)) dom

  -- an entry of a script
  pub known_at : (done es : List Entry) (e : Entry) → AllKnown (done ++ (e ∷ es)) → IsKnown e
  known_at [] es e a = a.0
  known_at (d ∷ done) es e a = known_at done es e a.1

-- ---- a frame that has its file alone

-- the entry at a place
at_place : (first rest : List Entry) (e d : Entry) → get_or (first ++ (e ∷ rest)) (length first) d ≡ e
at_place [] rest e d = refl
at_place (x ∷ first) rest e d = at_place first rest e d

-- the frame of an output that begins its file
abbrev pub plain : Plan → ℕ → Output → Frame
plain plan k o = record {
  number = k;
  place = o.place;
  domain = o.entry.domain;
  stream = o.stream;
  time = time_text plan.start o.entry.time;
  file = file_name o.stream o.entry.domain (time_text plan.start o.entry.time);
  first = true;
  rec = 0;
}

pub one_frame : (plan : Plan) (before : List Output) (o : Output) → frames_per_file plan o.entry.domain o.stream ≡ 1 → frame_for plan before o ≡ plain plan (length before) o
one_frame plan before o one =
    let like : List Output = filter (is_like o) before in
    let none : length like % frames_per_file plan o.entry.domain o.stream ≡ 0 = ap (λ n. length like % n) one ∙ whole (length like) in
    (λ z. record {
      number = length before;
      place = o.place;
      domain = o.entry.domain;
      stream = o.stream;
      time = time_text plan.start o.entry.time;
      file = file_name o.stream o.entry.domain (time_text plan.start (get_or (like ++ (o ∷ [])) (length like - none z) o).entry.time);
      first = none z == 0;
      rec = none z;
    })
    ∙ (λ z. record {
      number = length before;
      place = o.place;
      domain = o.entry.domain;
      stream = o.stream;
      time = time_text plan.start o.entry.time;
      file = file_name o.stream o.entry.domain (time_text plan.start (last like z).entry.time);
      first = true;
      rec = 0;
    })
  where
    whole : (n : ℕ) → n % 1 ≡ 0
    whole n = omega arith

    at_end : (xs : List Output) → get_or (xs ++ (o ∷ [])) (length xs) o ≡ o
    at_end [] = refl
    at_end (x ∷ xs) = at_end xs

    all_of : (n : ℕ) → n - 0 ≡ n
    all_of n = omega arith

    last : (xs : List Output) → get_or (xs ++ (o ∷ [])) (length xs - 0) o ≡ o
    last xs = ap (λ n. get_or (xs ++ (o ∷ [])) n o) (all_of (length xs)) ∙ at_end xs

-- a stream of a domain has one frame to a file
pub one_each : (plan : Plan) (d stream : ℕ) → HasOneFrameFiles plan → IsDomain plan d → stream ≤ restart_stream → frames_per_file plan d stream ≡ 1
one_each plan d stream one dom le = elim (split_bool (stream == restart_stream)) [
  | inl e ↦ if_true (stream == restart_stream) 1 (slice_index (domain_of plan d).frames stream) e
  | inr e ↦ if_false (stream == restart_stream) 1 (slice_index (domain_of plan d).frames stream) e ∙ one d stream dom (below stream le e)
]
  where
    below : (n : ℕ) → n ≤ 10 → (n == 10) ≡ false → n < 10
    below n le e = grind arith

-- ---- the calls

-- a domain's first start has one text in both runs
same_start : (r s : RunData) (m d : ℕ) → IsContinuedBy r m s → IsDomain r.plan d → (begin_of r.initial.begins d).start_text ≡ (begin_of s.initial.begins d).start_text
same_start r s m d is dom = elim (split_bool (goes_on r m d)) [
  | inl on ↦ sym (ap (λ (b : Begin). b.start_text) (goes r s m d is dom on))
  | inr off ↦ sym (ap (λ (b : Begin). b.start_text) (waits r s m d is dom off))
]

-- the calls of a frame that begins its file
calls_of : (file header : List ℕ) (slabs : List (List ℕ)) → List StoreCall
calls_of file header slabs = create file ∷ append file header ∷ (map (append file) slabs ++ write_at file 4 (four_bytes 1) ∷ [])

plain_calls : (r : RunData) (k : ℕ) (o : Output) → frame_calls r (plain r.plan k o) ≡ calls_of (plain r.plan k o).file (header_of r (plain r.plan k o)) (record_of r (plain r.plan k o))
unfolding frame_calls calls_of
plain_calls r k o = refl

pub found : (r : RunData) (first rest : List Entry) (e : Entry) → script r ≡ first ++ (e ∷ rest) → entry_at r (length first) ≡ e
unfolding entry_at
found r first rest e a = ap (λ es. get_or es (length first) no_entry) a ∙ at_place first rest e no_entry

-- the slabs of a frame
same_record : (r s : RunData) (m stream : ℕ) (first done es : List Entry) (e : Entry) (k l : ℕ) → IsContinuedBy r m s → script r ≡ first ++ map (later_by (time_after r m)) (e ∷ es) → script s ≡ done ++ (e ∷ es) → e.act ≡ Emit stream
    → GoesAlike r s e (fold (grids_after r) (begin_grids r) first) (fold (grids_after s) (begin_grids s) done) → time_text r.plan.start (e.time + time_after r m) ≡ time_text s.plan.start e.time
    → record_of r (plain r.plan k (record { place = length first; stream = stream; entry = later_by (time_after r m) e })) ≡ record_of s (plain s.plan l (record { place = length done; stream = stream; entry = e }))
unfolding record_of
same_record r s m stream first done es e k l is a b act go text =
    λ z. char_bytes (nat_lt 0 (length (sym (stream_levels_are r.plan s.plan (alike r s m is) stream) z))) (text z) ∷ slabs_alike r s m stream e first done es (λ f vs. slab_bytes vs) is a b act go z

pub calls_alike : ContinuedRunsWriteTheSameCalls
unfolding writes_of
calls_alike r s m sound live time is files =
    by_map (frame_calls s) (frames_written s)
    ∙ ap (flat_map (λ (c : List StoreCall). c)) (all_seen r s m (frame_calls r) (frame_calls s) sound live time is seen)
    ∙ sym (by_map (frame_calls r) (later_frames r m))
  where
    by_map : (f : Frame → List StoreCall) (xs : List Frame) → flat_map f xs ≡ flat_map (λ (c : List StoreCall). c) (map f xs)
    by_map f [] = refl
    by_map f (x ∷ xs) = ap (λ cs. f x ++ cs) (by_map f xs)

    seen : (first done es : List Entry) (e : Entry) (stream : ℕ) (before earlier : List Output) → script r ≡ first ++ map (later_by (time_after r m)) (e ∷ es) → script s ≡ done ++ (e ∷ es) → e.act ≡ Emit stream
        → GoesAlike r s e (fold (grids_after r) (begin_grids r) first) (fold (grids_after s) (begin_grids s) done)
        → frame_calls r (frame_for r.plan before (record { place = length first; stream = stream; entry = later_by (time_after r m) e })) ≡ frame_calls s (frame_for s.plan earlier (record { place = length done; stream = stream; entry = e }))
    seen first done es e stream before earlier a b act go =
        let T : ℕ = time_after r m in
        let o : Output = record { place = length first; stream = stream; entry = later_by T e } in
        let u : Output = record { place = length done; stream = stream; entry = e } in
        let one : IsDomain s.plan 1 = (omega arith, omega (arith, (sound.sound).some, is.plan.count)) in
        let fact : IsKnown s.plan s.initial.begins e = known_at s.plan s.initial.begins done es e (subst (λ es. AllKnown s.plan s.initial.begins es) b (known_script s.plan s.initial.begins one)) in
        let there : IsDomain r.plan e.domain = ((fact.domain).0, omega (arith, (fact.domain).1, is.plan.count)) in
        let x : Frame = plain r.plan (length before) o in
        let y : Frame = plain s.plan (length earlier) u in
        let text : time_text r.plan.start (e.time + T) ≡ time_text s.plan.start e.time = same_text r s m e.time sound time.within is in
        let file : x.file ≡ y.file = ap (file_name stream e.domain) text in
        let step_r : (entry_at r (length first)).step ≡ e.step = ap (λ (z : Entry). z.step) (found r first (map (later_by T) es) (later_by T e) a) in
        let step_s : (entry_at s (length done)).step ≡ e.step = ap (λ (z : Entry). z.step) (found s done es e b) in
        let header : header_of r x ≡ header_of s y
        = (λ z. header_bytes (placed (file_header r.plan e.domain stream (same_start r s m e.domain is there z) (step_r z))))
        ∙ ap (λ (h : Header). header_bytes (placed h)) (sym (file_header_is r.plan s.plan (alike r s m is) files.version e.domain stream (begin_of s.initial.begins e.domain).start_text e.step))
        ∙ (λ z. header_bytes (placed (file_header s.plan e.domain stream (begin_of s.initial.begins e.domain).start_text (sym step_s z)))) in
        let slabs : record_of r x ≡ record_of s y = same_record r s m stream first done es e (length before) (length earlier) is a b act go text in
        ap (frame_calls r) (one_frame r.plan before o (one_each r.plan e.domain stream files.before there (fact.stream stream act)))
        ∙ plain_calls r (length before) o
        ∙ (λ z. calls_of (file z) (header z) (slabs z))
        ∙ sym (plain_calls s (length earlier) u)
        ∙ sym (ap (frame_calls s) (one_frame s.plan earlier u (one_each s.plan e.domain stream files.after fact.domain (fact.stream stream act))))
