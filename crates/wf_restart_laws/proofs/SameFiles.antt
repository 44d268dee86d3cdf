-- The files of a run that goes on, where each takes one frame.
use Rattle.std.proofs.Common.{◌≡◌, ◌⊎◌, inl, inr, ⊎_elim, ℕ, ◌+◌, ◌≤◌, Bool, true, false, List, [], ◌∷◌, ◌++◌, map, Option, Some, refl, sym, ap, ◌∙◌, subst, arith}
use Rattle.std.proofs.lemmas.List.Sums.{fold-append}
use Rattle.std.proofs.lemmas.List.Concat.{flat_map-append}
use Rattle.std.proofs.lemmas.Slice.Eq.{bytes_eq-Decides}
use Rattle.std.specs.Prelude.{flat_map, unwrap_or, if◌then◌else◌}
use Rattle.std.specs.Str.{bytes_eq}
use Rattle.wf_model.specs.declared.frame.Frame.{Frame}
use Rattle.wf_model.specs.declared.plan.Plan.{Plan}
use Rattle.wf_model.specs.declared.script.Act.{Act}
use Rattle.wf_model.specs.declared.script.Act.TheVariants.{Start, Force, Feedback, Table, Emit}
use Rattle.wf_model.specs.declared.script.Entry.{Entry}
use Rattle.wf_model.specs.Files.{Files, StoreCall, create, append, write_at, with_file, bytes_at, patched, after_call, files_after_all}
use Rattle.wf_model.specs.Frames.{Output, output_at, outputs_from, frames_from, frames_of, frames_written}
use Rattle.wf_model.specs.Outcome.{RunData, script, outcome_of}
use Rattle.wf_model.specs.Sound.{IsDomain}
use Rattle.wf_model.specs.Bytes.{four_bytes}
use Rattle.wf_model.specs.Writes.{header_of, record_of, frame_calls, writes_of}
use Rattle.wf_laws.proofs.Members.{In, In-filter_out, In-flat_map, Contains-In}
use Rattle.wf_restart_laws.specs.SameFrames.{later_frames, HasOneFrameFiles, ContinuedRunsWriteTheSameFiles}
use Rattle.wf_restart_laws.proofs.SameCalls.{AllKnown, known_script, one_frame, one_each, calls_alike}
use Rattle.wf_restart_laws.proofs.LaterFrames.{written_are, later_split}

-- ---- calls and one name

module _ (name : List ℕ) where
  -- with a file at two maps that agree on the name
  with_same : (a b : Files) (n x y : List ℕ) → (name ≡ n → x ≡ y) → a name ≡ b name → with_file a n x name ≡ with_file b n y name
  with_same a b n x y h e = cases (bytes_eq name n) (λ t. h ((bytes_eq-Decides name n).0 t))
    where
      cases : (t : Bool) → (t ≡ true → x ≡ y) → (if t then Some x else a name) ≡ (if t then Some y else b name)
      cases true k = ap (λ (z : List ℕ). Some z) (k refl)
      cases false k = e

  held_same : (a b : Files) (n : List ℕ) → name ≡ n → a name ≡ b name → bytes_at a n ≡ bytes_at b n
  held_same a b n is e = ap (λ (o : Option (List ℕ)). unwrap_or o []) (subst (λ (z : List ℕ). a z ≡ b z) is e)

  call_same : (a b : Files) (c : StoreCall) → a name ≡ b name → after_call a c name ≡ after_call b c name
  call_same a b (create n) e = with_same a b n [] [] (λ is. refl) e
  call_same a b (append n x) e = with_same a b n (bytes_at a n ++ x) (bytes_at b n ++ x) (λ is. ap (λ (z : List ℕ). z ++ x) (held_same a b n is e)) e
  call_same a b (write_at n at x) e = with_same a b n (patched (bytes_at a n) at x) (patched (bytes_at b n) at x) (λ is. ap (λ (z : List ℕ). patched z at x) (held_same a b n is e)) e

  calls_same : (calls : List StoreCall) (a b : Files) → a name ≡ b name → files_after_all a calls name ≡ files_after_all b calls name
  calls_same [] a b e = e
  calls_same (c ∷ calls) a b e = calls_same calls (after_call a c) (after_call b c) (call_same a b c e)

  -- a name that is made anew has the same bytes, whatever stood there
  made_anew : (calls : List StoreCall) (a b : Files) → In (create name) calls → files_after_all a calls name ≡ files_after_all b calls name
  made_anew [] a b i = absurd i
  made_anew (c ∷ calls) a b i = ⊎_elim (λ e. calls_same calls (after_call a c) (after_call b c) (subst (λ (z : StoreCall). after_call a z name ≡ after_call b z name) e (own a ∙ sym (own b)))) (λ j. made_anew calls (after_call a c) (after_call b c) j) i
    where
      own : (m : Files) → with_file m name [] name ≡ Some []
      own m = let same : bytes_eq name name ≡ true = (bytes_eq-Decides name name).1 refl in λ z. if same z then Some [] else m name

-- ---- each frame begins its file

module _ (plan : Plan) (one : HasOneFrameFiles plan) where
  outputs_known : (begins : List _) (n : ℕ) (es : List Entry) → AllKnown plan begins es → (o : Output) → In o (outputs_from n es) → IsDomain plan o.entry.domain × (o.stream ≤ 10)
  unfolding outputs_from
  outputs_known begins n [] known o i = absurd i
  outputs_known begins n (e ∷ es) known o i = ⊎_elim (λ j. here e.act refl j) (λ j. outputs_known begins (n + 1) es known.1 o j) (either (output_at n e e.act) (outputs_from (n + 1) es) i)
    where
      either : (xs ys : List Output) → In o (xs ++ ys) → In o xs ⊎ In o ys
      either [] ys j = inr j
      either (x ∷ xs) ys j = ⊎_elim (λ e. inl (inl e)) (λ t. ⊎_elim (λ u. inl (inr u)) (λ u. inr u) (either xs ys t)) j

      here : (a : Act) → e.act ≡ a → In o (output_at n e a) → IsDomain plan o.entry.domain × (o.stream ≤ 10)
      here Start is j = absurd j
      here Force is j = absurd j
      here Feedback is j = absurd j
      here (Table k) is j = absurd j
      here (Emit k) is j = ⊎_elim (λ w. (subst (λ (z : Output). IsDomain plan z.entry.domain) (sym w) (known.0).domain, subst (λ (z : Output). z.stream ≤ 10) (sym w) ((known.0).stream k is))) (λ w. absurd w) j

  all_first : (before os : List Output) (f : Frame) → ((o : Output) → In o os → IsDomain plan o.entry.domain × (o.stream ≤ 10)) → In f (frames_from plan before os) → f.first ≡ true
  unfolding frames_from
  all_first before [] f known i = absurd i
  all_first before (o ∷ os) f known i = ⊎_elim
      (λ e. let k = known o (inl refl) in ap (λ (x : Frame). x.first) (e ∙ one_frame plan before o (one_each plan o.entry.domain o.stream one k.0 k.1)))
      (λ j. all_first (before ++ (o ∷ [])) os f (λ x u. known x (inr u)) j) i

-- a frame that begins its file makes it
makes : (r : RunData) (f : Frame) → f.first ≡ true → In (create f.file) (frame_calls r f)
unfolding frame_calls
makes r f first =
    subst (λ (b : Bool). In (create f.file) ((if b then create f.file ∷ append f.file (header_of r f) ∷ [] else []) ++ map (append f.file) (record_of r f) ++ write_at f.file 4 (four_bytes (f.rec + 1)) ∷ [])) (sym first) (inl refl)

pub files_alike : ContinuedRunsWriteTheSameFiles
unfolding writes_of frames_of
files_alike r s m old new frame sound live time is files there =
    let calls : List StoreCall = flat_map (frame_calls s) (frames_written s) in
    let same : calls ≡ flat_map (frame_calls r) (later_frames r m) = calls_alike r s m sound live time is files in
    let earlier = later_split r s m sound time is in
    let first : IsDomain s.plan 1 = (omega arith, omega (arith, (sound.sound).some, is.plan.count)) in
    let begun : frame.first ≡ true = all_first s.plan files.after [] (outputs_from 0 (script s)) frame
    (outputs_known s.plan files.after s.initial.begins 0 (script s) (known_script s.plan s.initial.begins first))
    (In-filter_out _ frame (frames_from s.plan [] (outputs_from 0 (script s))) (subst (λ (xs : List Frame). In frame xs) (written_are (outcome_of s) (frames_from s.plan [] (outputs_from 0 (script s)))) (Contains-In frame (frames_written s) there))).0 in
    let anew : In (create frame.file) calls = In-flat_map (frame_calls s) (create frame.file) frame (frames_written s) (Contains-In frame (frames_written s) there) (makes s frame begun) in
    made_anew frame.file calls new (files_after_all old (flat_map (frame_calls r) earlier.0)) anew
    ∙ ap (λ cs. files_after_all (files_after_all old (flat_map (frame_calls r) earlier.0)) cs frame.file) same
    ∙ sym (λ z. fold-append after_call old (flat_map (frame_calls r) earlier.0) (flat_map (frame_calls r) (later_frames r m)) z frame.file)
    ∙ ap (λ cs. files_after_all old cs frame.file) (sym (flat_map-append (frame_calls r) earlier.0 (later_frames r m)))
    ∙ ap (λ fs. files_after_all old (flat_map (frame_calls r) fs) frame.file) (sym earlier.1)
