-- What a restart file holds when its run has ended.
use Rattle.std.proofs.Common.{◌≡◌, ⊎_elim, ℕ, zero, suc, ◌+◌, ◌-◌, ◌*◌, ◌≤◌, ◌<◌, Bool, true, false, cond, List, [], ◌∷◌, ◌++◌, map, length, get_or, Some, sym, ap, ◌∙◌, subst, arith}
use Rattle.std.proofs.Math.Nat.{mul-le-mul_right}
use Rattle.std.proofs.lemmas.List.Concat.{flat_map-append}
use Rattle.std.proofs.lemmas.List.Sums.{fold-append}
use Rattle.std.specs.Prelude.{◌==◌, nat_lt, filter, flat_map, All, if◌then◌else◌}
use Rattle.std.specs.List.{range_with_len}
use Rattle.wf_model.specs.declared.frame.Frame.{Frame}
use Rattle.wf_model.specs.declared.script.Act.{Act}
use Rattle.wf_model.specs.declared.script.Entry.{Entry}
use Rattle.wf_model.specs.Bytes.{four_bytes, slab_bytes, char_bytes, header_bytes}
use Rattle.wf_model.specs.Files.{Files, StoreCall, create, append, write_at, after_call, files_after_all}
use Rattle.wf_model.specs.Headers.{file_header, placed}
use Rattle.wf_model.specs.Plans.{domain_of, begin_of, domains_of}
use Rattle.wf_model.specs.Script.{restart_stream}
use Rattle.wf_model.specs.Streams.{stream_levels}
use Rattle.wf_model.specs.Outcome.{RunData, script, outcome_of}
use Rattle.wf_model.specs.Frames.{Output, output_at, outputs_from, frames_from, frames_of, frames_written}
use Rattle.wf_model.specs.Writes.{header_of, record_of, frame_calls, writes_of}
use Rattle.wf_model.specs.SoundRun.{IsSoundRun}
use Rattle.wf_laws.proofs.Bools.{differ}
use Rattle.wf_laws.proofs.Members.{In, In-right, In-either, In-map_out, In-flat_map_out, In-range_out, In-filter_out, In-get_or, Contains-In}
use Rattle.wf_laws.proofs.ScriptSteps.{Apart}
use Rattle.wf_model.specs.Continued.{time_after, goes_on}
use Rattle.wf_restart_laws.specs.SameFrames.{overflow_in_all}
use Rattle.wf_restart_laws.specs.Shifted.{step_entries}
use Rattle.wf_restart_laws.specs.Filed.{restart_name, IsRestartFrame, called, RestartFilesStand}
use Rattle.wf_restart_laws.proofs.StoreFiles.{made, others}
use Rattle.wf_restart_laws.proofs.LaterFrames.{outputs-append, written_are, comes_to}
use Rattle.wf_restart_laws.proofs.RestartFrames.{restart_entry, IsPlaced, placed_frame}
use Rattle.wf_restart_laws.proofs.RestartNames.{IsNamed, named, output_of, frame_of_output, is_restart, every_flat, every_step, every_in}

-- ---- items behind the restart frame of a domain are none of it

range_apart : (a n : ℕ) → Apart (range_with_len a n)
range_apart a zero = tt
range_apart a (suc n) = ((λ x i e. let l = In-range_out x (a + 1) n i in later a x l.0 e), range_apart (a + 1) n)
  where
    later : (a x : ℕ) → a + 1 ≤ x → a ≡ x → ⊥
    later a x l e = omega arith

filter_apart : (test : ℕ → Bool) (xs : List ℕ) → Apart xs → Apart (filter test xs)
filter_apart test [] h = tt
filter_apart test (x ∷ xs) h =
    (elim (test x) as (λ b. Apart (cond b (x ∷ filter test xs) (filter test xs))) [
      | true ↦ ((λ y i e. h.0 y (In-filter_out test y xs i).0 e), filter_apart test xs h.1)
      | false ↦ filter_apart test xs h.1
    ])

apart_behind : (xs : List ℕ) (d : ℕ) (ys : List ℕ) → Apart (xs ++ (d ∷ ys)) → (y : ℕ) → In y ys → d ≡ y → ⊥
apart_behind [] d ys h = h.0
apart_behind (x ∷ xs) d ys h = apart_behind xs d ys h.1

-- restart frames of later steps come later
abbrev Late : ℕ → Entry → Type 0
Late t e = is_restart e.act ≡ true → t < e.time

late_steps : (r : RunData) (m k : ℕ) → IsSoundRun r → (e : Entry) → In e (flat_map (λ n. step_entries r (m + n)) (range_with_len 0 k)) → Late (time_after r m) e
late_steps r m k sound e i =
    every_in (Late (time_after r m)) none r.plan r.initial.begins (flat_map (λ n. step_entries r (m + n)) (range_with_len 0 k)) e
    (every_flat (Late (time_after r m)) none r.plan r.initial.begins (λ n. step_entries r (m + n)) (range_with_len 0 k)
    (λ n j. every_step (Late (time_after r m)) none r.plan r.initial.begins (length r.plan.domains) 1 ((m + n) * (domain_of r.plan 1).seconds) (λ w y v h. later m n (domain_of r.plan 1).seconds ((sound.sound).steps 1 (omega arith, (sound.sound).some))))) i
  where
    none : (e : Entry) → is_restart e.act ≡ false → is_restart e.act ≡ true → time_after r m < e.time
    none e h t = absurd (differ (sym t ∙ h))

    later : (m n a : ℕ) → 1 ≤ a → m * a < (m + n) * a + a
    later m n a some = let le : m * a ≤ (m + n) * a = mul-le-mul_right a (omega arith) in omega (arith, le, some)

-- ---- calls of other frames are on other files

calls_on : (r : RunData) (f : Frame) (c : StoreCall) → In c (frame_calls r f) → called c ≡ f.file
unfolding frame_calls
calls_on r f c i =
    let head : List StoreCall = if f.first then create f.file ∷ append f.file (header_of r f) ∷ [] else [] in
    ⊎_elim
    (λ j. ⊎_elim (first f.first) (λ k. let w = In-map_out (append f.file) c (record_of r f) k in ap called w.2) (In-either c head (map (append f.file) (record_of r f)) j))
    (λ k. ⊎_elim (λ e. ap called e) (λ e. absurd e) k)
    (In-either c (head ++ map (append f.file) (record_of r f)) (write_at f.file 4 (four_bytes (f.rec + 1)) ∷ []) i)
  where
    first : (b : Bool) → In c (if b then create f.file ∷ append f.file (header_of r f) ∷ [] else []) → called c ≡ f.file
    first true j = ⊎_elim (λ e. ap called e) (λ k. ⊎_elim (λ e. ap called e) (λ e. absurd e) k) j
    first false j = absurd j

pub none_on : (r : RunData) (fs : List Frame) (name : List ℕ) → ((f : Frame) → In f fs → f.file ≡ name → ⊥) → All (λ (c : StoreCall). called c ≡ name → ⊥) (flat_map (frame_calls r) fs)
none_on r fs name h = λ k d lt e.
    let i : In (get_or (flat_map (frame_calls r) fs) k d) (flat_map (frame_calls r) fs) = In-get_or (flat_map (frame_calls r) fs) k d lt in
    let w = In-flat_map_out (frame_calls r) (get_or (flat_map (frame_calls r) fs) k d) fs i in
    h w.0 w.1 (sym (calls_on r w.0 (get_or (flat_map (frame_calls r) fs) k d) w.2) ∙ e)

-- ---- the file

-- two restart frames of one domain and time have one record
same_record : (r : RunData) (m d : ℕ) (f g : Frame) → IsRestartFrame r m d f → IsRestartFrame r m d g → record_of r f ≡ record_of r g
unfolding record_of
same_record r m d f g a b =
    (λ z. char_bytes (nat_lt 0 (length (stream_levels r.plan ((a.stream ∙ sym b.stream) z)))) ((a.time ∙ sym b.time) z) ∷ map (λ l. slab_bytes ((a.slabs l ∙ sym (b.slabs l)) z)) (stream_levels r.plan ((a.stream ∙ sym b.stream) z)))

-- an output of later items is one of the script
later_output : (r : RunData) (before after : List Entry) (e : Entry) (o : Output) → script r ≡ before ++ (e ∷ after) → In o (outputs_from (length before + 1) after) → In o (outputs_from 0 (script r))
unfolding outputs_from
later_output r before after e o all i =
    subst (λ (os : List Output). In o os) (sym (ap (outputs_from 0) all ∙ outputs-append 0 before (e ∷ after)))
    (In-right o (outputs_from 0 before) (outputs_from (0 + length before) (e ∷ after)) (In-right o (output_at (0 + length before) e e.act) (outputs_from (0 + length before + 1) after) (subst (λ n. In o (outputs_from (n + 1) after)) (sym (zero_left (length before))) i)))
  where
    zero_left : (n : ℕ) → 0 + n ≡ n
    zero_left n = omega arith

-- a domain with a restart frame goes on
frame_goes_on : (r : RunData) (m d : ℕ) (frame : Frame) → IsSoundRun r → m ≤ r.plan.steps → IsRestartFrame r m d frame → goes_on r m d ≡ true
unfolding frames_of
frame_goes_on r m d frame sound within is =
    let all : List Frame = frames_from r.plan [] (outputs_from 0 (script r)) in
    let i : In frame all = (In-filter_out (λ (f : Frame). comes_to (overflow_in_all (outcome_of r)) f.place) frame all (subst (λ (fs : List Frame). In frame fs) (written_are (outcome_of r) all) (Contains-In frame (frames_written r) is.written))).0 in
    let w = frame_of_output r.plan [] (outputs_from 0 (script r)) frame i in
    (named r m d w.0 w.1 sound within w.2 (sym (ap (λ (g : Frame). g.file) w.3) ∙ is.file)).going

pub files_stand : RestartFilesStand
unfolding writes_of
files_stand r m d old frame sound time dom is =
    let on : goes_on r m d ≡ true = going_on in
    let x : IsPlaced r m d = placed_frame r m d sound time dom on in
    let name : List ℕ = restart_name r m d in
    let front : List StoreCall = flat_map (frame_calls r) x.front in
    let back : List StoreCall = flat_map (frame_calls r) x.back in
    let before : Files = files_after_all old front in
    let here : Files = files_after_all before (frame_calls r x.frame) in
    let calls : flat_map (frame_calls r) (frames_written r) ≡ front ++ (frame_calls r x.frame ++ back) = ap (flat_map (frame_calls r)) x.among ∙ flat_map-append (frame_calls r) x.front (x.frame ∷ x.back) in
    ap (λ cs. files_after_all old cs name) calls
    ∙ (λ z. fold-append after_call old front (frame_calls r x.frame ++ back) z name)
    ∙ (λ z. fold-append after_call before (frame_calls r x.frame) back z name)
    ∙ others here back name (none_on r x.back name (λ f i e. not_behind f x i e))
    ∙ ap (λ q. here q) (sym (x.is).file)
    ∙ made r x.frame before (x.is).first (x.is).rec
    ∙ (λ z. Some (header_bytes (record (placed (file_header r.plan ((x.is).domain z) ((x.is).stream z) (begin_of r.initial.begins ((x.is).domain z)).start_text ((x.is).steps z))) { numrecs = 1 }) ++ flat_map (λ (b : List ℕ). b) (same_record r m d x.frame frame x.is is z)))
  where
    going_on : goes_on r m d ≡ true
    going_on = frame_goes_on r m d frame sound time.within is

    not_behind : (f : Frame) (x : IsPlaced r m d) → In f x.back → f.file ≡ restart_name r m d → ⊥
    not_behind f x i e =
        let o0 : Output = record { place = length x.before; stream = restart_stream; entry = restart_entry r m d } in
        let after : List Entry = map (restart_entry r m) x.rest ++ flat_map (λ n. step_entries r (m + n)) (range_with_len 0 (r.plan.steps - m)) in
        let w = frame_of_output r.plan (outputs_from 0 x.before ++ (o0 ∷ [])) (outputs_from (length x.before + 1) after) f (x.behind f i) in
        let o : Output = w.1 in
        let whole : In o (outputs_from 0 (script r)) = later_output r x.before after (restart_entry r m d) o x.split_at w.2 in
        let n : IsNamed r m d o = named r m d w.0 o sound time.within whole (sym (ap (λ (g : Frame). g.file) w.3) ∙ e) in
        let v = output_of (length x.before + 1) after o w.2 in
        ⊎_elim
        (λ j. let u = In-map_out (restart_entry r m) o.entry x.rest j in apart_behind (x.others).0 d x.rest (subst (λ (xs : List ℕ). Apart xs) (x.others).1 (filter_apart (goes_on r m) (domains_of r.plan) (range_apart 1 (length r.plan.domains)))) u.0 u.1 (sym n.domain ∙ ap (λ (z : Entry). z.domain) u.2))
        (λ j. let lt = late_steps r m (r.plan.steps - m) sound o.entry j in less (time_after r m) o.entry.time (is_late o.entry lt (ap (λ (a : Act). is_restart a) v.1 ∙ ap (λ k. k == restart_stream) n.stream)) n.time)
        (In-either o.entry (map (restart_entry r m) x.rest) (flat_map (λ n. step_entries r (m + n)) (range_with_len 0 (r.plan.steps - m))) v.0)
      where
        less : (a b : ℕ) → a < b → b ≡ a → ⊥
        less a b l e = omega arith

        is_late : (e : Entry) → Late (time_after r m) e → is_restart e.act ≡ true → time_after r m < e.time
        is_late e h t = h t
