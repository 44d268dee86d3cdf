-- A nest that hasn't started by the restart time holds 0 there.
use Rattle.std.proofs.Common.{◌≡◌, inl, inr, ℕ, zero, suc, ◌+◌, ◌*◌, ◌≤◌, ◌<◌, Bool, true, false, List, [], ◌∷◌, ◌++◌, map, length, take, pos, refl, sym, ap, ◌∙◌, arith}
use Rattle.std.proofs.lemmas.Bool.Decides.{nat_tests}
use Rattle.std.proofs.lemmas.List.Sums.{fold-append}
use Rattle.std.proofs.Math.Nat.{mul-le-mul_right}
use Rattle.std.specs.Prelude.{◌==◌, ◌&&◌, ◌||◌, not, fold, nat_lt, nat_le, filter, flat_map, if◌then◌else◌}
use Rattle.std.specs.List.{range_with_len}
use Rattle.wf_model.specs.declared.initial.Begin.{Begin}
use Rattle.wf_model.specs.declared.plan.Plan.{Plan}
use Rattle.wf_model.specs.declared.script.Act.TheVariants.{Start, Force, Feedback, Table, Emit}
use Rattle.wf_model.specs.declared.script.Entry.{Entry}
use Rattle.wf_model.specs.Plans.{domain_of, item_of, begin_of, domains_of, children}
use Rattle.wf_model.specs.Grids.{Grids}
use Rattle.wf_model.specs.Nests.{start_change, force_change, feedback_change}
use Rattle.wf_model.specs.Script.{entry, interval, is_due, restart_stream, begin_time, steps_by, starts_at, has_started_by, start_frames, due_frames, starts, table, restart_frames, step_of}
use Rattle.wf_model.specs.Outcome.{RunData, input_grids, begin_grids, change_of, grids_after, grids_at}
use Rattle.wf_model.specs.Sound.{IsDomain}
use Rattle.wf_model.specs.SoundRun.{IsSoundRun}
use Rattle.wf_laws.proofs.Bools.{differ, equal_of}
use Rattle.wf_laws.proofs.Members.{In, In-range_out}
use Rattle.wf_laws.proofs.ScriptTurns.{IsChild, child_of}
use Rattle.wf_model.specs.Continued.{time_after, first_steps, place_after, goes_on}
use Rattle.wf_restart_laws.proofs.Scripts.{split}
use Rattle.wf_restart_laws.proofs.ItemsAlike.{emit_after, other_domain, table_keeps}

module _ (r : RunData) (m : ℕ) (sound : IsSoundRun r) (x : ℕ) (off : goes_on r m x ≡ false) where
  abbrev p : Plan
  p = r.plan

  abbrev b : List Begin
  b = r.initial.begins

  abbrev T : ℕ
  T = time_after r m

  -- entries that leave the nest as it is
  abbrev Keeps : List Entry → Type 0
  Keeps es = (g : Grids) → fold (grids_after r) g es x ≡ g x

  keeps_both : (es fs : List Entry) → Keeps es → Keeps fs → Keeps (es ++ fs)
  keeps_both es fs a c g = (λ n. fold-append (grids_after r) g es fs n x) ∙ c (fold (grids_after r) g es) ∙ a g

  keeps_if : (t : Bool) (es : List Entry) → (t ≡ true → Keeps es) → Keeps (if t then es else [])
  keeps_if true es k = k refl
  keeps_if false es k = λ g. refl

  keeps_flat : (f : ℕ → List Entry) (xs : List ℕ) → ((y : ℕ) → In y xs → Keeps (f y)) → Keeps (flat_map f xs)
  keeps_flat f [] k = λ g. refl
  keeps_flat f (y ∷ xs) k = keeps_both (f y) (flat_map f xs) (k y (inl refl)) (keeps_flat f xs (λ z i. k z (inr i)))

  keeps_one : (e : Entry) (es : List Entry) → ((g : Grids) → grids_after r g e x ≡ g x) → Keeps es → Keeps (e ∷ es)
  keeps_one e es one k = λ g. k (grids_after r g e) ∙ one g

  -- frames
  keeps_emit : (d step t stream : ℕ) (g : Grids) → grids_after r g (entry d step t (Emit stream)) x ≡ g x
  keeps_emit d step t stream g = λ n. emit_after r d step t stream g n x

  keeps_frames : (d : ℕ → ℕ) (step : ℕ → ℕ) (t : ℕ) (stream : ℕ → ℕ) (xs : List ℕ) → Keeps (map (λ a. entry (d a) (step a) t (Emit (stream a))) xs)
  keeps_frames d step t stream [] = λ g. refl
  keeps_frames d step t stream (a ∷ xs) = keeps_one (entry (d a) (step a) t (Emit (stream a))) (map (λ a. entry (d a) (step a) t (Emit (stream a))) xs) (keeps_emit (d a) (step a) t (stream a)) (keeps_frames d step t stream xs)

  -- other domains
  keeps_table : (d step t n : ℕ) → (x ≡ d → ⊥) → (g : Grids) → grids_after r g (entry d step t (Table n)) x ≡ g x
  unfolding grids_after change_of
  keeps_table d step t n apart g = table_keeps p r.answers d step g (item_of p n) x apart

  keeps_items : (d step t : ℕ) (ns : List ℕ) → (x ≡ d → ⊥) → Keeps (map (λ n. entry d step t (Table n)) ns)
  keeps_items d step t [] apart = λ g. refl
  keeps_items d step t (n ∷ ns) apart = keeps_one (entry d step t (Table n)) (map (λ n. entry d step t (Table n)) ns) (keeps_table d step t n apart) (keeps_items d step t ns apart)

  keeps_start : (y t : ℕ) → (x ≡ y → ⊥) → (g : Grids) → grids_after r g (entry y 0 t Start) x ≡ g x
  unfolding grids_after change_of
  keeps_start y t apart g = other_domain (start_change p r.answers (input_grids r) g y) g x apart

  keeps_force : (y step t : ℕ) → (x ≡ y → ⊥) → (g : Grids) → grids_after r g (entry y step t Force) x ≡ g x
  unfolding grids_after change_of
  keeps_force y step t apart g = other_domain (force_change p r.answers g y) g x apart

  keeps_feedback : (y step t : ℕ) → (x ≡ (domain_of p y).parent → ⊥) → (g : Grids) → grids_after r g (entry y step t Feedback) x ≡ g x
  unfolding grids_after change_of
  keeps_feedback y step t apart g = other_domain (feedback_change p r.answers g y) g x apart

  -- the nest itself has not started
  not_it : (y t : ℕ) → t < T → (begin_of b y).resumed ≡ false → begin_time p b y ≡ t → x ≡ y → ⊥
  not_it y t lt fresh at e = late (begin_of b x).resumed (begin_time p b x) T off (begins (λ z. begin_time p b z) at e) lt
    where
      begins : (f : ℕ → ℕ) → f y ≡ t → x ≡ y → f x ≡ t
      begins f a e = ap f e ∙ a

      late : (res : Bool) (bt n : ℕ) → (res || nat_lt bt n) ≡ false → bt ≡ t → t < n → ⊥
      late true bt n h a l = differ h
      late false bt n h a l = differ (sym (below bt n (omega (arith, a, l))) ∙ h)
        where
          below : (a b : ℕ) → a < b → nat_lt a b ≡ true
          below a b h = grind (arith, nat_tests)

  not_started : (y t : ℕ) → t < T → has_started_by p b y t ≡ true → x ≡ y → ⊥
  not_started y t lt started e = late (begin_of b x).resumed (begin_time p b x) T off (ap (λ z. has_started_by p b z t) e ∙ started) lt
    where
      late : (res : Bool) (bt n : ℕ) → (res || nat_lt bt n) ≡ false → (res || nat_le bt t) ≡ true → t < n → ⊥
      late true bt n h a l = differ h
      late false bt n h a l = differ (sym (below bt n (before bt a)) ∙ h)
        where
          below : (a b : ℕ) → a < b → nat_lt a b ≡ true
          below a b h = grind (arith, nat_tests)

          before : (bt : ℕ) → nat_le bt t ≡ true → bt < n
          before bt a = let le : bt ≤ t = grind (arith, nat_tests) in omega arith

  -- a step of another domain, up to the restart time
  keeps_step : (depth d t : ℕ) → IsDomain p d → (x ≡ d → ⊥) → t + (domain_of p d).seconds ≤ T → Keeps (step_of p b depth d t)
  unfolding step_of
  keeps_step zero d t dom apart within = λ g. refl
  keeps_step (suc depth) d t dom apart within =
      let step : ℕ = steps_by p b d t + 1 in
      let end : ℕ = t + (domain_of p d).seconds in
      let some : 1 ≤ (domain_of p d).seconds = (sound.sound).steps d dom in
      let early : t < T = omega (arith, within, some) in
      let nest : ℕ → List Entry = λ y. if has_started_by p b y t
      then entry y (steps_by p b y t + 1) t Force
      ∷ (flat_map (λ n. step_of p b depth y (t + n * (domain_of p y).seconds)) (range_with_len 0 (domain_of p y).time_ratio)
      ++ (if p.feedback then entry y step t Feedback ∷ [] else []))
      else [] in
      let last : List Entry = if d == 1 then restart_frames p b step end else [] in
      keeps_both (((starts p b d t ++ table p b d step t) ++ flat_map nest (children p d)) ++ due_frames p b d step end) last
      (keeps_both ((starts p b d t ++ table p b d step t) ++ flat_map nest (children p d)) (due_frames p b d step end)
      (keeps_both (starts p b d t ++ table p b d step t) (flat_map nest (children p d))
      (keeps_both (starts p b d t) (table p b d step t)
      (keeps_flat (λ y. if starts_at p b y t then entry y 0 t Start ∷ start_frames p b y t else []) (children p d) (λ y i.
      keeps_if (starts_at p b y t) (entry y 0 t Start ∷ start_frames p b y t) (λ e.
      keeps_one (entry y 0 t Start) (start_frames p b y t)
      (keeps_start y t (not_it y t early (fresh (begin_of b y).resumed _ e) (equal_of (begin_time p b y) t (at_time (begin_of b y).resumed _ e))))
      (keeps_frames (λ a. y) (λ a. 0) t (λ a. a) (filter (λ a. nat_lt 0 (interval p b y a)) (range_with_len 0 10))))))
      (keeps_items d step t (range_with_len 0 (length p.items)) apart))
      (keeps_flat nest (children p d) (λ y i.
      let k : IsChild p d y = child_of p d y i in
      keeps_if (has_started_by p b y t) (entry y (steps_by p b y t + 1) t Force
      ∷ (flat_map (λ n. step_of p b depth y (t + n * (domain_of p y).seconds)) (range_with_len 0 (domain_of p y).time_ratio)
      ++ (if p.feedback then entry y step t Feedback ∷ [] else []))) (λ e.
      keeps_one (entry y (steps_by p b y t + 1) t Force) (flat_map (λ n. step_of p b depth y (t + n * (domain_of p y).seconds)) (range_with_len 0 (domain_of p y).time_ratio) ++ (if p.feedback then entry y step t Feedback ∷ [] else [])) (keeps_force y (steps_by p b y t + 1) t (not_started y t early e))
      (keeps_both (flat_map (λ n. step_of p b depth y (t + n * (domain_of p y).seconds)) (range_with_len 0 (domain_of p y).time_ratio)) (if p.feedback then entry y step t Feedback ∷ [] else [])
      (keeps_flat (λ n. step_of p b depth y (t + n * (domain_of p y).seconds)) (range_with_len 0 (domain_of p y).time_ratio) (λ n j.
      keeps_step depth y (t + n * (domain_of p y).seconds) k.domain (not_started y t early e)
      (inner t n (domain_of p y).seconds (domain_of p y).time_ratio (domain_of p d).seconds T (In-range_out n 0 (domain_of p y).time_ratio j).1 (((sound.sound).nests y k.nest k.domain).seconds ∙ ap (λ z. (domain_of p z).seconds) k.parent) within)))
      (keeps_if p.feedback (entry y step t Feedback ∷ []) (λ f. keeps_one (entry y step t Feedback) [] (keeps_feedback y step t (λ z. apart (z ∙ k.parent))) (λ g. refl))))))))
      (keeps_frames (λ a. d) (λ a. step) end (λ a. a) (filter (λ a. is_due (interval p b d a) step) (range_with_len 0 10))))
      (keeps_if (d == 1) (restart_frames p b step end) (λ e.
      keeps_if (is_due p.restart_steps step) (map (λ y. entry y (steps_by p b y end) end (Emit restart_stream)) (filter (λ y. (begin_of b y).resumed || nat_lt (begin_time p b y) end) (domains_of p))) (λ f.
      keeps_frames (λ y. y) (λ y. steps_by p b y end) end (λ y. restart_stream) (filter (λ y. (begin_of b y).resumed || nat_lt (begin_time p b y) end) (domains_of p)))))
    where
      fresh : (a b : Bool) → (not a && b) ≡ true → a ≡ false
      fresh true b e = absurd (differ (sym e))
      fresh false b e = refl

      at_time : (a b : Bool) → (not a && b) ≡ true → b ≡ true
      at_time true b e = absurd (differ (sym e))
      at_time false b e = e

      inner : (t n a k c T : ℕ) → n < 0 + k → a * k ≡ c → t + c ≤ T → t + n * a + a ≤ T
      inner t n a k c T lt e le =
          let many : suc n * a ≤ k * a = mul-le-mul_right a (omega (arith, lt)) in
          let one : suc n * a ≡ n * a + a = grind arith in
          let other : k * a ≡ a * k = grind arith in
          omega (arith, many, one, other, e, le)

  -- so it does through all the steps before
  keeps_first : IsDomain p 1 → (x ≡ 1 → ⊥) → Keeps (first_steps r m)
  unfolding first_steps
  keeps_first dom apart =
      keeps_both (if (begin_of b 1).resumed then [] else start_frames p b 1 0) (flat_map (λ n. step_of p b (length p.domains) 1 (n * (domain_of p 1).seconds)) (range_with_len 0 m))
      (either (begin_of b 1).resumed)
      (keeps_flat (λ n. step_of p b (length p.domains) 1 (n * (domain_of p 1).seconds)) (range_with_len 0 m) (λ n i.
      keeps_step (length p.domains) 1 (n * (domain_of p 1).seconds) dom apart (inner n (domain_of p 1).seconds m (In-range_out n 0 m i).1)))
    where
      either : (res : Bool) → Keeps (if res then [] else start_frames p b 1 0)
      either true = λ g. refl
      either false = keeps_frames (λ a. 1) (λ a. 0) 0 (λ a. a) (filter (λ a. nat_lt 0 (interval p b 1 a)) (range_with_len 0 10))

      inner : (n a m : ℕ) → n < 0 + m → n * a + a ≤ m * a
      inner n a m lt =
          let many : suc n * a ≤ m * a = mul-le-mul_right a (omega (arith, lt)) in
          let one : suc n * a ≡ n * a + a = grind arith in
          omega (arith, many, one)

-- the first of two lists
pub take_front : (es fs : List Entry) → take (length es) (es ++ fs) ≡ es
take_front [] fs = refl
take_front (e ∷ es) fs = ap (λ (zs : List Entry). e ∷ zs) (take_front es fs)

-- the grids there
pub grids_are : (r : RunData) (m : ℕ) → m ≤ r.plan.steps → grids_at r (place_after r m) ≡ fold (grids_after r) (begin_grids r) (first_steps r m)
unfolding grids_at
grids_are r m within = ap (λ es. fold (grids_after r) (begin_grids r) (take (length (first_steps r m)) es)) (split r m within) ∙ ap (fold (grids_after r) (begin_grids r)) (take_front (first_steps r m) _)

-- the nest holds 0
pub untouched : (r : RunData) (m x : ℕ) → IsSoundRun r → m ≤ r.plan.steps → 1 < x → goes_on r m x ≡ false → (f k j i : ℕ) → grids_at r (place_after r m) x f k j i ≡ pos 0
unfolding begin_grids
untouched r m x sound within nest off f k j i =
    (λ n. grids_are r m within n x f k j i)
    ∙ (λ n. keeps_first r m sound x off (omega arith, (sound.sound).some) (λ e. not_one x nest e) (begin_grids r) n f k j i)
    ∙ (λ n. (if no_first x nest n || fresh (begin_of r.initial.begins x).resumed _ off n then input_grids r x f else (λ k j i. pos 0)) k j i)
  where
    not_one : (x : ℕ) → 1 < x → x ≡ 1 → ⊥
    not_one x nest e = omega arith

    no_first : (x : ℕ) → 1 < x → (x == 1) ≡ false
    no_first x nest = grind (arith, nat_tests)

    fresh : (a b : Bool) → (a || b) ≡ false → a ≡ false
    fresh true b e = e
    fresh false b e = refl
