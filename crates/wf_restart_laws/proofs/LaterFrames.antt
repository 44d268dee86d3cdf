-- The frames of a run that goes on.
use Rattle.std.proofs.Common.{◌≡◌, ◌⊎◌, inl, inr, ⊎_elim, ℕ, suc, ◌+◌, ◌*◌, ◌≤◌, ◌<◌, Bool, true, false, cond, List, [], ◌∷◌, ◌++◌, map, length, take, Option, Some, None, Result, Ok, Err, refl, sym, ap, ◌∙◌, subst, arith, append_assoc}
use Rattle.std.proofs.Math.Nat.{mul-le-mul_right}
use Rattle.std.proofs.lemmas.Bool.Decides.{nat_tests}
use Rattle.std.proofs.lemmas.List.{append-nil, length-append}
use Rattle.std.proofs.lemmas.List.Sums.{fold-append}
use Rattle.std.proofs.lemmas.List.Elements.{filter-append}
use Rattle.std.specs.Prelude.{ℤ, fold, filter, nat_lt, nat_le, Contains}
use Rattle.wf_model.specs.declared.frame.Frame.{Frame}
use Rattle.wf_model.specs.declared.plan.Plan.{Plan}
use Rattle.wf_model.specs.declared.script.Act.{Act}
use Rattle.wf_model.specs.declared.script.Act.TheVariants.{Start, Force, Feedback, Table, Emit}
use Rattle.wf_model.specs.declared.script.Entry.{Entry}
use Rattle.wf_model.specs.Grids.{Grids}
use Rattle.wf_model.specs.Calendar.{time_text}
use Rattle.wf_model.specs.Plans.{domain_of}
use Rattle.wf_model.specs.Streams.{file_list, stream_levels}
use Rattle.wf_model.specs.Outcome.{RunData, Overflow, script, begin_grids, grids_after, grids_at, outcome_of}
use Rattle.wf_model.specs.Frames.{Output, output_at, outputs_from, frame_for, frames_from, frames_of, frames_written, up_to_overflow}
use Rattle.wf_model.specs.SoundRun.{IsSoundRun}
use Rattle.wf_laws.proofs.Bools.{split_bool}
use Rattle.wf_laws.proofs.Members.{In, In-filter_out, In-Contains, filter-none, filter-all}
use Rattle.wf_model.specs.Continued.{time_after, first_steps, place_after, IsRestartTime, HoldsLiveLevels, IsContinuedBy}
use Rattle.wf_restart_laws.specs.Shifted.{later_by}
use Rattle.wf_restart_laws.specs.Agrees.{GoesAlike, GoAlike, ShowAlike}
use Rattle.wf_restart_laws.specs.SameFrames.{shown, later_frames, overflow_behind, overflow_in_all, ContinuedRunsShowTheSameFrames}
use Rattle.wf_restart_laws.specs.Times.{IsInYears}
use Rattle.wf_restart_laws.proofs.AlikePlans.{stream_levels_are}
use Rattle.wf_restart_laws.proofs.SameTimes.{alike}
use Rattle.wf_restart_laws.proofs.ShiftedSteps.{scripts_are, map-same}
use Rattle.wf_restart_laws.proofs.RunsAlike.{go_alike}
use Rattle.wf_restart_laws.proofs.Untouched.{grids_are, take_front}
use Rattle.wf_restart_laws.proofs.LaterItems.{later_grids, overflow_alike}
use Rattle.wf_restart_laws.proofs.Texts.{go_on}

-- ---- lists

pub outputs-append : (n : ℕ) (es fs : List Entry) → outputs_from n (es ++ fs) ≡ outputs_from n es ++ outputs_from (n + length es) fs
unfolding outputs_from
outputs-append n [] fs = ap (λ k. outputs_from k fs) (zero_right n)
  where
    zero_right : (n : ℕ) → n ≡ n + 0
    zero_right n = omega arith
outputs-append n (e ∷ es) fs =
    ap (λ (os : List Output). output_at n e e.act ++ os) (outputs-append (n + 1) es fs ∙ ap (λ k. outputs_from (n + 1) es ++ outputs_from k fs) (moved n (length es)))
    ∙ sym (append_assoc (output_at n e e.act) (outputs_from (n + 1) es) (outputs_from (n + suc (length es)) fs))
  where
    moved : (n k : ℕ) → n + 1 + k ≡ n + suc k
    moved n k = omega arith

pub frames-append : (plan : Plan) (before os qs : List Output) → frames_from plan before (os ++ qs) ≡ frames_from plan before os ++ frames_from plan (before ++ os) qs
unfolding frames_from
frames-append plan before [] qs = ap (λ (b : List Output). frames_from plan b qs) (sym (append-nil before))
frames-append plan before (o ∷ os) qs =
    ap (λ (fs : List Frame). frame_for plan before o ∷ fs) (frames-append plan (before ++ (o ∷ [])) os qs
    ∙ ap (λ (b : List Output). frames_from plan (before ++ (o ∷ [])) os ++ frames_from plan b qs) (append_assoc before (o ∷ []) os))

-- an output's place
output_place : (n : ℕ) (es : List Entry) (o : Output) → In o (outputs_from n es) → (n ≤ o.place) × (o.place < n + length es)
unfolding outputs_from
output_place n [] o i = absurd i
output_place n (e ∷ es) o i = ⊎_elim (λ j. here e.act j) (λ j. let l = output_place (n + 1) es o j in (omega (arith, l.0), omega (arith, l.1))) (either (output_at n e e.act) (outputs_from (n + 1) es) i)
  where
    either : (xs ys : List Output) → In o (xs ++ ys) → In o xs ⊎ In o ys
    either [] ys j = inr j
    either (x ∷ xs) ys j = ⊎_elim (λ e. inl (inl e)) (λ t. ⊎_elim (λ u. inl (inr u)) (λ u. inr u) (either xs ys t)) j

    here : (a : Act) → In o (output_at n e a) → (n ≤ o.place) × (o.place < n + suc (length es))
    here Start j = absurd j
    here Force j = absurd j
    here Feedback j = absurd j
    here (Table k) j = absurd j
    here (Emit k) j = ⊎_elim (λ w. let at : o.place ≡ n = ap (λ (x : Output). x.place) w in (omega (arith, at), omega (arith, at))) (λ w. absurd w) j

-- a frame's
frame_place : (plan : Plan) (before os : List Output) (f : Frame) → In f (frames_from plan before os) → (o : Output) × In o os × (f.place ≡ o.place)
unfolding frames_from
frame_place plan before [] f i = absurd i
frame_place plan before (o ∷ os) f i =
    ⊎_elim (λ e. (o, inl refl, ap (λ (x : Frame). x.place) e)) (λ j. let w = frame_place plan (before ++ (o ∷ [])) os f j in (w.0, inr w.1, w.2)) i

frame_within : (plan : Plan) (before : List Output) (n : ℕ) (es : List Entry) (f : Frame) → In f (frames_from plan before (outputs_from n es)) → (n ≤ f.place) × (f.place < n + length es)
frame_within plan before n es f i = let w = frame_place plan before (outputs_from n es) f i in let l = output_place n es w.0 w.1 in (omega (arith, l.0, w.2), omega (arith, l.1, w.2))

-- ---- before the overflow

-- a place that a run with this overflow comes to
abbrev pub comes_to : Option Overflow → ℕ → Bool
comes_to None n = true
comes_to (Some o) n = nat_lt n o.place

pub written_are : (x : Result Grids Overflow) (fs : List Frame) → up_to_overflow x fs ≡ filter (λ f. comes_to (overflow_in_all x) f.place) fs
written_are (Ok g) fs = sym (filter-all (λ (f : Frame). true) fs (λ f i. refl))
written_are (Err o) fs = refl

same_below : (x : Result Grids Overflow) (n k : ℕ) → comes_to (overflow_behind n x) (n + k) ≡ comes_to (overflow_in_all x) k
same_below (Ok g) n k = refl
same_below (Err o) n k = shift n k o.place
  where
    shift : (n a b : ℕ) → nat_lt (n + a) (n + b) ≡ nat_lt a b
    shift n a b = ⊎_elim
        (λ h. let l : a < b = grind (arith, nat_tests) in yes (n + a) (n + b) (omega (arith, l)) ∙ sym h)
        (λ h. let l : b ≤ a = grind (arith, nat_tests) in no (n + a) (n + b) (omega (arith, l)) ∙ sym h) (split_bool (nat_lt a b))
      where
        yes : (a b : ℕ) → a < b → nat_lt a b ≡ true
        yes a b h = grind (arith, nat_tests)

        no : (a b : ℕ) → b ≤ a → nat_lt a b ≡ false
        no a b h = grind (arith, nat_tests)

-- ---- frame by frame

map-cond : {X : Type 0} (v : Frame → X) (b : Bool) (f : Frame) (fs : List Frame) → map v (cond b (f ∷ fs) fs) ≡ cond b (v f ∷ map v fs) (map v fs)
map-cond v true f fs = refl
map-cond v false f fs = refl

module _ {X : Type 0} (r s : RunData) (t n : ℕ) (view_r view_s : Frame → X) (keep_r keep_s : ℕ → Bool) where
  abbrev fold_r : List Entry → Grids
  fold_r es = fold (grids_after r) (begin_grids r) es

  abbrev fold_s : List Entry → Grids
  fold_s es = fold (grids_after s) (begin_grids s) es

  abbrev output : ℕ → ℕ → Entry → Output
  output place stream e = record { place = place; stream = stream; entry = e }

  -- frames of one entry of both scripts are seen alike
  abbrev pub SeenAlike : Type 0
  SeenAlike =
      (first done es : List Entry) (e : Entry) (stream : ℕ) (before earlier : List Output) → script r ≡ first ++ map (later_by t) (e ∷ es) → script s ≡ done ++ (e ∷ es) → e.act ≡ Emit stream →
      GoesAlike r s e (fold_r first) (fold_s done) →
      view_r (frame_for r.plan before (output (length first) stream (later_by t e))) ≡ view_s (frame_for s.plan earlier (output (length done) stream e))

  frames_seen : SeenAlike → ((k : ℕ) → keep_r (n + k) ≡ keep_s k) → (es first done : List Entry) (before earlier : List Output) → script r ≡ first ++ map (later_by t) es → script s ≡ done ++ es → length first ≡ n + length done
      → GoAlike r s es (fold_r first) (fold_s done)
      → map view_r (filter (λ f. keep_r f.place) (frames_from r.plan before (outputs_from (length first) (map (later_by t) es)))) ≡ map view_s (filter (λ f. keep_s f.place) (frames_from s.plan earlier (outputs_from (length done) es)))
  unfolding outputs_from frames_from
  frames_seen seen keep [] first done before earlier a b len go = refl
  frames_seen seen keep (e ∷ es) first done before earlier a b len go =
      cases e.act refl (λ more others.
      ap (λ k. map view_r (filter (λ f. keep_r f.place) (frames_from r.plan more (outputs_from k (map (later_by t) es))))) (sym (one_more first (later_by t e)))
      ∙ frames_seen seen keep es (first ++ (later_by t e ∷ [])) (done ++ (e ∷ [])) more others (a ∙ sym (append_assoc first (later_by t e ∷ []) (map (later_by t) es))) (b ∙ sym (append_assoc done (e ∷ []) es))
      (one_more first (later_by t e) ∙ ap (λ k. k + 1) len ∙ moved n (length done) ∙ ap (λ k. n + k) (sym (one_more done e)))
      (subst (λ z. GoAlike r s es z (fold_s (done ++ (e ∷ [])))) (sym (fold-append (grids_after r) (begin_grids r) first (later_by t e ∷ []) ∙ later_grids r t e (fold_r first)))
      (subst (λ z. GoAlike r s es (grids_after r (fold_r first) e) z) (sym (fold-append (grids_after s) (begin_grids s) done (e ∷ []))) go.1))
      ∙ ap (λ k. map view_s (filter (λ f. keep_s f.place) (frames_from s.plan others (outputs_from k es)))) (one_more done e))
    where
      one_more : (xs : List Entry) (x : Entry) → length (xs ++ (x ∷ [])) ≡ length xs + 1
      one_more xs x = length-append xs (x ∷ [])

      moved : (a b : ℕ) → a + b + 1 ≡ a + (b + 1)
      moved a b = omega arith

      cases : (act : Act) → e.act ≡ act
          → ((more others : List Output) → map view_r (filter (λ f. keep_r f.place) (frames_from r.plan more (outputs_from (length first + 1) (map (later_by t) es)))) ≡ map view_s (filter (λ f. keep_s f.place) (frames_from s.plan others (outputs_from (length done + 1) es))))
          → map view_r (filter (λ f. keep_r f.place) (frames_from r.plan before (output_at (length first) (later_by t e) act ++ outputs_from (length first + 1) (map (later_by t) es)))) ≡ map view_s (filter (λ f. keep_s f.place) (frames_from s.plan earlier (output_at (length done) e act ++ outputs_from (length done + 1) es)))
      cases Start is rest = rest before earlier
      cases Force is rest = rest before earlier
      cases Feedback is rest = rest before earlier
      cases (Table k) is rest = rest before earlier
      cases (Emit stream) is rest =
          let o : Output = output (length first) stream (later_by t e) in
          let u : Output = output (length done) stream e in
          let others : List Frame = filter (λ f. keep_r f.place) (frames_from r.plan (before ++ (o ∷ [])) (outputs_from (length first + 1) (map (later_by t) es))) in
          let kept : keep_r (length first) ≡ keep_s (length done) = ap keep_r len ∙ keep (length done) in
          map-cond view_r (keep_r (length first)) (frame_for r.plan before o) others
          ∙ (λ z. cond (kept z) (seen first done es e stream before earlier a b is go.0 z ∷ rest (before ++ (o ∷ [])) (earlier ++ (u ∷ [])) z) (rest (before ++ (o ∷ [])) (earlier ++ (u ∷ [])) z))
          ∙ sym (map-cond view_s (keep_s (length done)) (frame_for s.plan earlier u) (filter (λ f. keep_s f.place) (frames_from s.plan (earlier ++ (u ∷ [])) (outputs_from (length done + 1) es))))

-- ---- the later frames of the first run

-- those behind the restart frames that were written
later_are : (r s : RunData) (m : ℕ) → IsSoundRun r → IsRestartTime r m → IsContinuedBy r m s → later_frames r m ≡ filter (λ f. comes_to (overflow_in_all (outcome_of r)) f.place)
    (frames_from r.plan (outputs_from 0 (first_steps r m)) (outputs_from (place_after r m) (map (later_by (time_after r m)) (script s))))
unfolding later_frames frames_of
later_are r s m sound time is =
    let n : ℕ = place_after r m in
    let es : List Entry = map (later_by (time_after r m)) (script s) in
    let c : Frame → Bool = λ f. comes_to (overflow_in_all (outcome_of r)) f.place in
    let front : List Frame = frames_from r.plan [] (outputs_from 0 (first_steps r m)) in
    let back : List Frame = frames_from r.plan (outputs_from 0 (first_steps r m)) (outputs_from n es) in
    let all : frames_from r.plan [] (outputs_from 0 (script r)) ≡ front ++ back
    = ap (λ xs. frames_from r.plan [] (outputs_from 0 xs)) (scripts_are r s m sound time.some time.within is)
    ∙ ap (frames_from r.plan []) (outputs-append 0 (first_steps r m) es ∙ ap (λ k. outputs_from 0 (first_steps r m) ++ outputs_from k es) (zero_left n))
    ∙ frames-append r.plan [] (outputs_from 0 (first_steps r m)) (outputs_from n es) in
    ap (filter (λ (f : Frame). nat_le n f.place)) (written_are (outcome_of r) (frames_from r.plan [] (outputs_from 0 (script r))))
    ∙ ap (λ xs. filter (λ (f : Frame). nat_le n f.place) (filter c xs)) all
    ∙ ap (filter (λ (f : Frame). nat_le n f.place)) (filter-append c front back)
    ∙ filter-append (λ (f : Frame). nat_le n f.place) (filter c front) (filter c back)
    ∙ (λ z. filter-none (λ (f : Frame). nat_le n f.place) (filter c front) (λ f i. past n f.place (early (frame_within r.plan [] 0 (first_steps r m) f (In-filter_out c f front i).0))) z
    ++ filter-all (λ (f : Frame). nat_le n f.place) (filter c back) (λ f i. there n f.place (frame_within r.plan (outputs_from 0 (first_steps r m)) n es f (In-filter_out c f back i).0).0) z)
  where
    zero_left : (n : ℕ) → 0 + n ≡ n
    zero_left n = omega arith

    early : {k n : ℕ} → (0 ≤ k) × (k < 0 + n) → k < n
    early h = omega (arith, h.1)

    past : (n k : ℕ) → k < n → nat_le n k ≡ false
    past n k h = grind (arith, nat_tests)

    there : (n k : ℕ) → n ≤ k → nat_le n k ≡ true
    there n k h = grind (arith, nat_tests)

-- what the first run writes: some frames, and then the later ones
pub later_split : (r s : RunData) (m : ℕ) → IsSoundRun r → IsRestartTime r m → IsContinuedBy r m s → (front : List Frame) × (frames_written r ≡ front ++ later_frames r m)
unfolding frames_of
later_split r s m sound time is =
    let n : ℕ = place_after r m in
    let es : List Entry = map (later_by (time_after r m)) (script s) in
    let c : Frame → Bool = λ f. comes_to (overflow_in_all (outcome_of r)) f.place in
    let front : List Frame = frames_from r.plan [] (outputs_from 0 (first_steps r m)) in
    let back : List Frame = frames_from r.plan (outputs_from 0 (first_steps r m)) (outputs_from n es) in
    let all : frames_from r.plan [] (outputs_from 0 (script r)) ≡ front ++ back
    = ap (λ xs. frames_from r.plan [] (outputs_from 0 xs)) (scripts_are r s m sound time.some time.within is)
    ∙ ap (frames_from r.plan []) (outputs-append 0 (first_steps r m) es ∙ ap (λ k. outputs_from 0 (first_steps r m) ++ outputs_from k es) (zero_left n))
    ∙ frames-append r.plan [] (outputs_from 0 (first_steps r m)) (outputs_from n es) in (
      filter c front,
      written_are (outcome_of r) (frames_from r.plan [] (outputs_from 0 (script r))) ∙ ap (filter c) all ∙ filter-append c front back ∙ ap (λ xs. filter c front ++ xs) (sym (later_are r s m sound time is)),
    )
  where
    zero_left : (n : ℕ) → 0 + n ≡ n
    zero_left n = omega arith

-- so what is seen alike of each frame is seen alike of all
pub all_seen : {X : Type 0} (r s : RunData) (m : ℕ) (view_r view_s : Frame → X) → IsSoundRun r → HoldsLiveLevels r.plan → IsRestartTime r m → IsContinuedBy r m s
    → SeenAlike r s (time_after r m) (place_after r m) view_r view_s (comes_to (overflow_in_all (outcome_of r))) (comes_to (overflow_in_all (outcome_of s))) → map view_s (frames_written s) ≡ map view_r (later_frames r m)
unfolding frames_of
all_seen r s m view_r view_s sound live time is seen =
    ap (map view_s) (written_are (outcome_of s) (frames_from s.plan [] (outputs_from 0 (script s))))
    ∙ sym (frames_seen r s (time_after r m) (place_after r m) view_r view_s (comes_to (overflow_in_all (outcome_of r))) (comes_to (overflow_in_all (outcome_of s))) seen
    (λ k. ap (λ o. comes_to o (place_after r m + k)) (sym (overflow_alike r s m sound live time is)) ∙ same_below (outcome_of s) (place_after r m) k)
    (script s) (first_steps r m) [] (outputs_from 0 (first_steps r m)) [] (scripts_are r s m sound time.some time.within is) refl (zero_right (place_after r m))
    (subst (λ g. GoAlike r s (script s) g (begin_grids s)) (grids_are r m time.within) (go_alike r s m sound live time is)))
    ∙ ap (map view_r) (sym (later_are r s m sound time is))
  where
    zero_right : (n : ℕ) → n ≡ n + 0
    zero_right n = omega arith

-- ---- what frames show

-- the restart time lies within the years
pub in_years : (r : RunData) (m : ℕ) → IsSoundRun r → m ≤ r.plan.steps → IsInYears r.plan.start (time_after r m)
in_years r m sound within = record {
  stamp = ((sound.ranged).time).start;
  within = let le : m * (domain_of r.plan 1).seconds ≤ r.plan.steps * (domain_of r.plan 1).seconds = mul-le-mul_right (domain_of r.plan 1).seconds within in omega (arith, le, ((sound.ranged).time).finish);
}

-- a time's text is the same in both runs
pub same_text : (r s : RunData) (m n : ℕ) → IsSoundRun r → m ≤ r.plan.steps → IsContinuedBy r m s → time_text r.plan.start (n + time_after r m) ≡ time_text s.plan.start n
same_text r s m n sound within is =
    sym (ap (λ x. time_text x n) (ap (λ (p : Plan). p.start) is.plan.same) ∙ go_on r.plan.start (time_after r m) n (in_years r m sound within) ∙ ap (time_text r.plan.start) (turned (time_after r m) n))
  where
    turned : (a b : ℕ) → a + b ≡ b + a
    turned a b = omega arith

-- the grids behind the first items of a script
pub grids_behind : (r : RunData) (first rest : List Entry) → script r ≡ first ++ rest → grids_at r (length first) ≡ fold (grids_after r) (begin_grids r) first
unfolding grids_at
grids_behind r first rest a = ap (λ es. fold (grids_after r) (begin_grids r) (take (length first) es)) a ∙ ap (fold (grids_after r) (begin_grids r)) (take_front first rest)

-- the slabs of a frame
pub slabs_alike : {X : Type 0} (r s : RunData) (m stream : ℕ) (e : Entry) (first done es : List Entry) (each : ℕ → List ℤ → X) → IsContinuedBy r m s → script r ≡ first ++ map (later_by (time_after r m)) (e ∷ es) → script s ≡ done ++ (e ∷ es) → e.act ≡ Emit stream
    → GoesAlike r s e (fold (grids_after r) (begin_grids r) first) (fold (grids_after s) (begin_grids s) done)
    → map (λ f. each f (file_list r.plan e.domain f (grids_at r (length first)))) (stream_levels r.plan stream) ≡ map (λ f. each f (file_list s.plan e.domain f (grids_at s (length done)))) (stream_levels s.plan stream)
slabs_alike r s m stream e first done es each is a b act goes =
    map-same _ (λ f. each f (file_list s.plan e.domain f (grids_at s (length done)))) (stream_levels r.plan stream) (λ f i. ap (each f)
    (ap (file_list r.plan e.domain f) (grids_behind r first _ a)
    ∙ shows f (In-Contains f (stream_levels r.plan stream) i)
    ∙ ap (file_list s.plan e.domain f) (sym (grids_behind s done _ b))))
    ∙ ap (map (λ f. each f (file_list s.plan e.domain f (grids_at s (length done))))) (sym (stream_levels_are r.plan s.plan (alike r s m is) stream))
  where
    shows : (f : ℕ) → Contains (stream_levels r.plan stream) f → file_list r.plan e.domain f (fold (grids_after r) (begin_grids r) first) ≡ file_list s.plan e.domain f (fold (grids_after s) (begin_grids s) done)
    shows = subst (λ x. ShowAlike r s e x (fold (grids_after r) (begin_grids r) first) (fold (grids_after s) (begin_grids s) done)) act goes.frame

pub frames_show : ContinuedRunsShowTheSameFrames
frames_show r s m sound live time is = all_seen r s m (shown r) (shown s) sound live time is (λ first done es e stream before earlier a b act goes. λ z. record {
  domain = e.domain;
  stream = stream;
  time = same_text r s m e.time sound time.within is z;
  variables = slabs_alike r s m stream e first done es (λ f vs. (f, vs)) is a b act goes z;
})
