-- A run that goes on does, item by item, what the other run does after the restart frames.
use Rattle.std.proofs.Common.{◌≡◌, ◌⊎◌, inl, inr, ⊎_elim, ℕ, zero, suc, ◌+◌, ◌-◌, ◌*◌, ◌≤◌, ◌<◌, Bool, true, false, cond, List, [], ◌∷◌, ◌++◌, map, length, get_or, refl, sym, ap, ◌∙◌, subst, arith, append_assoc}
use Rattle.std.proofs.Math.Nat.{mul_comm}
use Rattle.std.proofs.lemmas.Bool.{cases_lt}
use Rattle.std.proofs.lemmas.Bool.Decides.{nat_tests}
use Rattle.std.specs.Prelude.{◌==◌, ◌&&◌, ◌||◌, not, is_some, nat_lt, nat_le, filter, flat_map, if◌then◌else◌}
use Rattle.std.specs.List.{range_with_len}
use Rattle.wf_model.specs.declared.initial.Begin.{Begin}
use Rattle.wf_model.specs.declared.plan.Domain.{Domain}
use Rattle.wf_model.specs.declared.plan.Item.{Item}
use Rattle.wf_model.specs.declared.plan.Plan.{Plan}
use Rattle.wf_model.specs.declared.script.Act.TheVariants.{Start, Force, Feedback, Table, Emit}
use Rattle.wf_model.specs.declared.script.Entry.{Entry}
use Rattle.wf_model.specs.Plans.{domain_of, field_of, item_of, no_item, begin_of, domains_of, children}
use Rattle.wf_model.specs.Grids.{Grids}
use Rattle.wf_model.specs.Changes.{Change, changed, table_change}
use Rattle.wf_model.specs.Nests.{start_change, force_change, feedback_change}
use Rattle.wf_model.specs.Script.{entry, interval, is_due, restart_stream, begin_time, steps_by, starts_at, has_started_by, start_frames, due_frames, starts, table, restart_frames, step_of, script_of}
use Rattle.wf_model.specs.Streams.{is_in_stream}
use Rattle.wf_model.specs.Live.{Deed, starts_nests, forces, feeds, item_done, emits, if_any, deeds_of, used_if, live_on, live_through}
use Rattle.wf_model.specs.Outcome.{RunData, script, input_grids, begin_grids, grids_at, grids_after}
use Rattle.wf_model.specs.Sound.{IsDomain, IsLevel, IsSoundNest}
use Rattle.wf_model.specs.SoundRun.{IsSoundRun}
use Rattle.wf_laws.proofs.Bools.{split_bool, differ, equal_of, equal_or_not, equal_or_less, or_left, or_right, if_false}
use Rattle.wf_laws.proofs.Members.{In, In-range_out, In-filter_out}
use Rattle.wf_laws.proofs.ScriptSteps.{Apart}
use Rattle.wf_laws.proofs.ScriptTurns.{IsChild, Under, self, up, child_of, child_above, under_low, under_child, under_some, under_one}
use Rattle.wf_model.specs.Continued.{place_after, goes_on, HoldsLiveLevels, IsContinuedBy}
use Rattle.wf_restart_laws.specs.Shifted.{has_begun_by}
use Rattle.wf_restart_laws.specs.Agrees.{AgreeWhole, is_wanted, AgreeWhereWanted, GoAlike, TableGoesAlike, StartGoesAlike, ForceGoesAlike, FeedbackGoesAlike, ContinuedRunsGoAlike}
use Rattle.wf_restart_laws.proofs.Agreeing.{plain_starts, plain_forces, plain_feeds, plain_emits, fewer, held, none_more, along, along_whole}
use Rattle.wf_restart_laws.proofs.Wanted.{step_wants}
use Rattle.wf_restart_laws.proofs.GoAlike.{wanted_by, table_alike}
use Rattle.wf_restart_laws.proofs.NestsAlike.{start_alike, force_alike, feedback_alike}
use Rattle.wf_restart_laws.proofs.ItemsAlike.{emit_after, other_domain, table_keeps, table_goes, table_then, table_here, start_goes, start_then, start_here, force_goes, force_then, force_here, feedback_goes, feedback_then, feedback_here, frame_goes, restart_goes, restored, waiting, inputs}
use Rattle.wf_restart_laws.proofs.SameTimes.{alike, goes}
use Rattle.wf_restart_laws.proofs.ShiftedSteps.{first_goes}
use Rattle.wf_restart_laws.proofs.Untouched.{untouched}

module _ (r s : RunData) (m : ℕ) (sound : IsSoundRun r) (live : HoldsLiveLevels r.plan) (some : 1 ≤ r.plan.restart_steps) (is : IsContinuedBy r m s) where
  abbrev p : Plan
  p = r.plan

  abbrev q : Plan
  q = s.plan

  abbrev c : List Begin
  c = s.initial.begins

  -- ---- what is wanted

  -- and at a step's start no more
  at_start : (d f : ℕ) → IsDomain p d → IsLevel p f → is_wanted p d (deeds_of p d) f ≡ true → (field_of p f).restart ≡ true
  at_start d f dom level w = step_wants p d f live some dom level w

  -- ---- the deeds of a step

  nests_of : ℕ → List Deed
  nests_of d = if_any (children p d) (starts_nests ∷ [])

  back_of : ℕ → List Deed
  back_of d = if_any (children p d) (forces ∷ (if p.feedback then feeds ∷ [] else []))

  last_of : ℕ → List Deed
  last_of d = if nat_lt 1 d && p.feedback then feeds ∷ [] else []

  ends_of : ℕ → List Deed
  ends_of d = map emits (range_with_len 0 10) ++ last_of d

  -- behind its own force
  rest_of : ℕ → List Deed
  rest_of d = nests_of d ++ (map item_done p.items ++ (back_of d ++ ends_of d))

  deeds_are : (d : ℕ) → deeds_of p d ≡ (if nat_lt 1 d then forces ∷ [] else []) ++ rest_of d
  unfolding deeds_of rest_of nests_of back_of last_of ends_of
  deeds_are d =
      let a : List Deed = if nat_lt 1 d then forces ∷ [] else [] in
      let b : List Deed = if_any (children p d) (starts_nests ∷ []) in
      let t : List Deed = map item_done p.items in
      let n : List Deed = if_any (children p d) (forces ∷ (if p.feedback then feeds ∷ [] else [])) in
      let e : List Deed = map emits (range_with_len 0 10) in
      let l : List Deed = if nat_lt 1 d && p.feedback then feeds ∷ [] else [] in
      append_assoc ((((a ++ b) ++ t) ++ n)) e l ∙ append_assoc ((a ++ b) ++ t) n (e ++ l) ∙ append_assoc (a ++ b) t (n ++ (e ++ l)) ∙ append_assoc a b (t ++ (n ++ (e ++ l)))

  -- ---- agreement along equal grids

  go_along : (fs : List Entry) (g h x y : Grids) → x ≡ g → y ≡ h → GoAlike r s fs g h → GoAlike r s fs x y
  go_along fs g h x y a b go = subst (λ z. GoAlike r s fs z y) (sym a) (subst (λ z. GoAlike r s fs g z) (sym b) go)

  -- no domain but one is changed
  abbrev Apart_from : ℕ → Grids → Grids → Grids → Grids → Type 0
  Apart_from d g h x y = (e : ℕ) → (e ≡ d → ⊥) → (x e ≡ g e) × (y e ≡ h e)

  -- ---- the table

  item_deeds : ℕ → ℕ → List Deed
  item_deeds k n = map (λ a. item_done (item_of p a)) (range_with_len k n)

  by_place : (xs : List Item) (k : ℕ) → ((a : ℕ) → a < length xs → get_or xs a no_item ≡ item_of p (k + a)) → map item_done xs ≡ item_deeds k (length xs)
  unfolding item_deeds
  by_place [] k h = refl
  by_place (x ∷ xs) k h = λ n. item_done ((h 0 (omega arith) ∙ ap (item_of p) (zero_right k)) n) ∷ by_place xs (k + 1) (λ a l. h (suc a) (omega (arith, l)) ∙ ap (item_of p) (moved k a)) n
    where
      zero_right : (k : ℕ) → k + 0 ≡ k
      zero_right k = omega arith

      moved : (k a : ℕ) → k + suc a ≡ k + 1 + a
      moved k a = omega arith

  items_are : map item_done p.items ≡ item_deeds 0 (length p.items)
  unfolding item_of
  items_are = by_place p.items 0 (λ a l. ap (λ n. get_or p.items n no_item) (zero_left a))
    where
      zero_left : (a : ℕ) → a ≡ 0 + a
      zero_left a = omega arith

  table_goes_on : (d step t : ℕ) → IsDomain p d → (n k : ℕ) (rest : List Deed) (fs : List Entry) (g h : Grids) → k + n ≡ length p.items → AgreeWhereWanted p d (item_deeds k n ++ rest) g h
      → ((x y : Grids) → AgreeWhereWanted p d rest x y → Apart_from d g h x y → GoAlike r s fs x y)
      → GoAlike r s (map (λ a. entry d step t (Table a)) (range_with_len k n) ++ fs) g h
  unfolding item_deeds
  table_goes_on d step t dom zero k rest fs g h len own next = next g h own (λ e apart. (refl, refl))
  table_goes_on d step t dom (suc n) k rest fs g h len own next =
      let more : List Deed = map (λ a. item_done (item_of p a)) (range_with_len (k + 1) n) ++ rest in
      let a : TableGoesAlike p r.answers d step k more g h = table_alike p r.answers d step k more g h sound.sound dom (omega (arith, len)) own in
      let e : Entry = entry d step t (Table k) in
      let x : Grids = grids_after r g e in
      let y : Grids = grids_after s h e in
      let to_x : Grids = changed (table_change p r.answers g d step (item_of p k)) g in
      let to_y : Grids = changed (table_change p r.answers h d step (item_of p k)) h in
      let from_x : x ≡ to_x = table_here r s m sound is d step t k g in
      let from_y : y ≡ to_y = table_then r s m sound is d step t k h in (
        table_goes r s m sound is d step t k more g h a,
        table_goes_on d step t dom n (k + 1) rest fs x y (omega (arith, len)) (along p d more to_x to_y x y (λ z. from_x z d) (λ z. from_y z d) a.after)
            (λ u v agree keep. next u v agree (λ b apart.
            let w = keep b apart in
            (w.0 ∙ (λ z. from_x z b) ∙ table_keeps p r.answers d step g (item_of p k) b apart, w.1 ∙ (λ z. from_y z b) ∙ table_keeps p r.answers d step h (item_of p k) b apart))),
      )

  -- ---- frames

  -- frames that show alike, one after another, change nothing
  frames_go_on : (d step t : ℕ) (xs : List ℕ) (fs : List Entry) (g h : Grids) → IsDomain p d → ((a : ℕ) → In a xs → AgreeWhereWanted p d (emits a ∷ []) g h) → GoAlike r s fs g h → GoAlike r s (map (λ a. entry d step t (Emit a)) xs ++ fs) g h
  frames_go_on d step t [] fs g h dom agree go = go
  frames_go_on d step t (a ∷ xs) fs g h dom agree go = (
    frame_goes r s m sound is d step t a [] g h dom (agree a (inl refl)),
    go_along (map (λ b. entry d step t (Emit b)) xs ++ fs) g h (grids_after r g (entry d step t (Emit a))) (grids_after s h (entry d step t (Emit a))) (emit_after r d step t a g) (emit_after s d step t a h)
        (frames_go_on d step t xs fs g h dom (λ b i. agree b (inr i)) go),
  )

  restarts_go_on : (step : ℕ → ℕ) (t : ℕ) (xs : List ℕ) (fs : List Entry) (g h : Grids) → ((a : ℕ) → In a xs → IsDomain p a × AgreeWhereWanted p a [] g h) → GoAlike r s fs g h → GoAlike r s (map (λ a. entry a (step a) t (Emit restart_stream)) xs ++ fs) g h
  restarts_go_on step t [] fs g h agree go = go
  restarts_go_on step t (a ∷ xs) fs g h agree go = (
    restart_goes r s m sound is a (step a) t [] g h (agree a (inl refl)).0 (agree a (inl refl)).1,
    go_along (map (λ b. entry b (step b) t (Emit restart_stream)) xs ++ fs) g h (grids_after r g (entry a (step a) t (Emit restart_stream))) (grids_after s h (entry a (step a) t (Emit restart_stream)))
        (emit_after r a (step a) t restart_stream g) (emit_after s a (step a) t restart_stream h)
        (restarts_go_on step t xs fs g h (λ b i. agree b (inr i)) go),
  )

  -- a stream's level is wanted as long as the frames of the step are to come
  emits_live : (d a f : ℕ) (xs : List ℕ) (rest : List Deed) → In a xs → is_in_stream p a f ≡ true → live_through p d (map emits xs ++ rest) f ≡ true
  unfolding live_through
  emits_live d a f [] rest i h = absurd i
  emits_live d a f (b ∷ xs) rest i h = ⊎_elim
      (λ e. λ n. live_on (used_if ((ap (λ z. is_in_stream p z f) (sym e) ∙ h) n) f) (live_through p d (map emits xs ++ rest)))
      (λ j. later (is_in_stream p b f) (live_through p d (map emits xs ++ rest)) (emits_live d a f xs rest j h)) i
    where
      later : (b : Bool) (l : ℕ → Bool) → l f ≡ true → live_on (used_if b f) l ≡ true
      later true l e = refl
      later false l e = e

  frame_wanted : (d a : ℕ) (rest : List Deed) (g h : Grids) → In a (range_with_len 0 10) → AgreeWhereWanted p d (map emits (range_with_len 0 10) ++ rest) g h → AgreeWhereWanted p d (emits a ∷ []) g h
  unfolding live_through
  frame_wanted d a rest g h i agree = λ f level w. agree f level
      (wanted_by (field_of p f).restart (live_on (used_if (is_in_stream p a f) f) (λ x. false)) w (λ e. or_left (field_of p f).restart _ e)
      (λ e. or_right (field_of p f).restart _ (emits_live d a f (range_with_len 0 10) rest i (shown f (is_in_stream p a f) e))))
    where
      shown : (f : ℕ) (b : Bool) → live_on (used_if b f) (λ x. false) ≡ true → b ≡ true
      shown f true e = refl
      shown f false e = e

  -- all frames are shown
  past_frames : (d : ℕ) (xs : List ℕ) (rest : List Deed) (g h : Grids) → AgreeWhereWanted p d (map emits xs ++ rest) g h → AgreeWhereWanted p d rest g h
  past_frames d [] rest g h agree = agree
  past_frames d (a ∷ xs) rest g h agree = past_frames d xs rest g h (fewer p d (emits a) (map emits xs ++ rest) g h (plain_emits a) agree)

  -- ---- what is kept from one time to the next

  record Rests (x t : ℕ) (g h : Grids) : Type 0 where
    quiet : AgreeWhereWanted p x [] g h
    whole : has_begun_by q c x t ≡ false → AgreeWhole p x g h

  rests_along : (x t : ℕ) (g h u v : Grids) → u x ≡ g x → v x ≡ h x → Rests x t g h → Rests x t u v
  rests_along x t g h u v a b rest = record { quiet = along p x [] g h u v a b rest.quiet; whole = λ off. along_whole p x g h u v a b (rest.whole off) }

  -- what has begun by a time has begun by a later one
  begun_later : (x t n : ℕ) → has_begun_by q c x (t + n) ≡ false → has_begun_by q c x t ≡ false
  begun_later x t n h = sooner (begin_of c x).resumed (begin_time q c x) h
    where
      sooner : (res : Bool) (bt : ℕ) → (res || nat_lt bt (t + n)) ≡ false → (res || nat_lt bt t) ≡ false
      sooner true bt e = e
      sooner false bt e = grind (arith, nat_tests)

  rests_later : (x t n : ℕ) (g h : Grids) → Rests x t g h → Rests x (t + n) g h
  rests_later x t n g h rest = record { quiet = rest.quiet; whole = λ off. rest.whole (begun_later x t n off) }

  -- agreement on all of a domain
  all_wanted : (x : ℕ) (rest : List Deed) (g h : Grids) → AgreeWhole p x g h → AgreeWhereWanted p x rest g h
  all_wanted x rest g h agree = λ f level w. agree f level

  rests_whole : (x t : ℕ) (g h : Grids) → AgreeWhole p x g h → Rests x t g h
  rests_whole x t g h agree = record { quiet = all_wanted x [] g h agree; whole = λ off. agree }

  abbrev Below : ℕ → ℕ → Grids → Grids → Type 0
  Below d t g h = (x : ℕ) → IsDomain p x → Under p d x → (x ≡ d → ⊥) → Rests x t g h

  -- the domains that are not under d are as they were
  abbrev Outside : ℕ → Grids → Grids → Grids → Grids → Type 0
  Outside d g h x y = (e : ℕ) → (Under p d e → ⊥) → (x e ≡ g e) × (y e ≡ h e)

  none_outside : (d : ℕ) (g h : Grids) → Outside d g h g h
  none_outside d g h = λ e off. (refl, refl)

  -- one domain under d, and then others
  then_outside : (d k : ℕ) (g h u v x y : Grids) → Under p d k → Apart_from k g h u v → Outside d u v x y → Outside d g h x y
  then_outside d k g h u v x y under one more = λ e off. let a = one e (λ i. off (subst (λ (z : ℕ). Under p d z) (sym i) under)) in let b = more e off in (b.0 ∙ a.0, b.1 ∙ a.1)

  -- and all under one of its nests, and then others
  both_outside : (d k : ℕ) (g h u v x y : Grids) → IsChild p d k → Outside k g h u v → Outside d u v x y → Outside d g h x y
  both_outside d k g h u v x y child one more = λ e off. let a = one e (λ i. off (under_child p sound.sound d k child i)) in let b = more e off in (b.0 ∙ a.0, b.1 ∙ a.1)

  one_change : (c : Change) (d : Change) (k : ℕ) (g h u v : Grids) → c.domain ≡ k → d.domain ≡ k → u ≡ changed c g → v ≡ changed d h → Apart_from k g h u v
  one_change c d k g h u v a b x y = λ e off. ((λ z. x z e) ∙ other_domain c g e (λ i. off (i ∙ a)), (λ z. y z e) ∙ other_domain d h e (λ i. off (i ∙ b)))

  -- a nest isn't its parent
  not_parent : (d x : ℕ) → IsChild p d x → d ≡ x → ⊥
  not_parent d x k e = let l : d < x = child_above p sound.sound d x k in omega arith

  is_under : (d x : ℕ) → IsChild p d x → Under p d x
  is_under d x k = up k.domain k.nest (self k.parent)

  -- ---- nests that start

  starts_go_on : (d t : ℕ) (rest : List Deed) (xs : List ℕ) (fs : List Entry) (g h : Grids) → ((x : ℕ) → In x xs → IsChild p d x) → AgreeWhereWanted p d (starts_nests ∷ rest) g h → Below d t g h
      → ((u v : Grids) → AgreeWhereWanted p d (starts_nests ∷ rest) u v → Below d t u v → Outside d g h u v → GoAlike r s fs u v)
      → GoAlike r s (flat_map (λ x. if starts_at q c x t then entry x 0 t Start ∷ start_frames q c x t else []) xs ++ fs) g h
  starts_go_on d t rest [] fs g h child own below next = next g h own below (none_outside d g h)
  starts_go_on d t rest (x ∷ xs) fs g h child own below next =
      subst (λ l. GoAlike r s l g h) (sym (append_assoc (if starts_at q c x t then entry x 0 t Start ∷ start_frames q c x t else []) (flat_map (λ y. if starts_at q c y t then entry y 0 t Start ∷ start_frames q c y t else []) xs) fs))
      (cases (λ u v a b on. starts_go_on d t rest xs fs u v (λ y i. child y (inr i)) a b on) (starts_at q c x t) refl)
    where
      k : IsChild p d x
      k = child x (inl refl)

      more : List Entry
      more = flat_map (λ y. if starts_at q c y t then entry y 0 t Start ∷ start_frames q c y t else []) xs ++ fs

      fresh : (a b : Bool) → (not a && b) ≡ true → a ≡ false
      fresh true b e = absurd (differ (sym e))
      fresh false b e = refl

      at_time : (a b : Bool) → (not a && b) ≡ true → b ≡ true
      at_time true b e = absurd (differ (sym e))
      at_time false b e = e

      waits_on : starts_at q c x t ≡ true → goes_on r m x ≡ false
      waits_on e = elim (split_bool (goes_on r m x)) [
        | inl on ↦ absurd (differ (sym (ap (λ (b : Begin). b.resumed) (goes r s m x is k.domain on)) ∙ fresh (begin_of c x).resumed _ e))
        | inr off ↦ off
      ]

      not_begun : starts_at q c x t ≡ true → has_begun_by q c x t ≡ false
      not_begun e =
          let bt : begin_time q c x ≡ t = equal_of (begin_time q c x) t (at_time (begin_of c x).resumed _ e) in
          (λ z. fresh (begin_of c x).resumed _ e z || nat_lt (begin_time q c x) t) ∙ ap (λ b. nat_lt b t) bt ∙ not_less t
        where
          not_less : (n : ℕ) → nat_lt n n ≡ false
          not_less n = grind (arith, nat_tests)

      cases : ((u v : Grids) → AgreeWhereWanted p d (starts_nests ∷ rest) u v → Below d t u v → ((x y : Grids) → AgreeWhereWanted p d (starts_nests ∷ rest) x y → Below d t x y → Outside d u v x y → GoAlike r s fs x y) → GoAlike r s more u v)
          → (b : Bool) → starts_at q c x t ≡ b → GoAlike r s ((if b then entry x 0 t Start ∷ start_frames q c x t else []) ++ more) g h
      cases again false e = again g h own below next
      cases again true e =
          let whole : AgreeWhole p x g h = (below x k.domain (is_under d x k) (λ i. not_parent d x k (sym i))).whole (not_begun e) in
          let a : StartGoesAlike p r.answers (input_grids r) (input_grids s) x g h
          = start_alike p r.answers (input_grids r) (input_grids s) x rest g h sound.sound k.nest k.domain (subst (λ z. AgreeWhereWanted p z (starts_nests ∷ rest) g h) (sym k.parent) own) whole (inputs r s m sound is x k.domain (waits_on e)) in
          let u : Grids = grids_after r g (entry x 0 t Start) in
          let v : Grids = grids_after s h (entry x 0 t Start) in
          let to_u : Grids = changed (start_change p r.answers (input_grids r) g x) g in
          let to_v : Grids = changed (start_change p r.answers (input_grids s) h x) h in
          let from_u : u ≡ to_u = start_here r s m sound is x t g in
          let from_v : v ≡ to_v = start_then r s m sound is x t h in
          let one : Apart_from x g h u v = one_change (start_change p r.answers (input_grids r) g x) (start_change p r.answers (input_grids s) h x) x g h u v refl refl from_u from_v in
          let started : AgreeWhole p x u v = along_whole p x to_u to_v u v (λ z. from_u z x) (λ z. from_v z x) a.after in
          let own_on : AgreeWhereWanted p d (starts_nests ∷ rest) u v = let w = one d (not_parent d x k) in along p d (starts_nests ∷ rest) g h u v w.0 w.1 own in
          let below_on : Below d t u v = λ y dom under off. ⊎_elim (λ i. subst (λ z. Rests z t u v) (sym i) (rests_whole x t u v started)) (λ i. let w = one y i in rests_along y t g h u v w.0 w.1 (below y dom under off)) (equal_or_not y x) in (
            start_goes r s m sound is x t g h a,
            frames_go_on x 0 t (filter (λ b. nat_lt 0 (interval q c x b)) (range_with_len 0 10)) more u v k.domain (λ b i. all_wanted x (emits b ∷ []) u v started)
                (again u v own_on below_on (λ f w a2 b2 o2. next f w a2 b2 (then_outside d x g h u v f w (is_under d x k) one o2))),
          )

  -- ---- a step, in any domain

  sec : ℕ → ℕ
  sec d = (domain_of q d).seconds

  record Ready (d t : ℕ) (g h : Grids) : Type 0 where
    own : AgreeWhereWanted p d (rest_of d) g h
    below : Below d t g h

  record Done (d t : ℕ) (g h x y : Grids) : Type 0 where
    own : AgreeWhereWanted p d (last_of d) x y
    below : Below d t x y
    outside : Outside d g h x y

  abbrev StepGoes : ℕ → Type 0
  StepGoes depth = (d t : ℕ) (fs : List Entry) (g h : Grids) → IsDomain p d → length p.domains < d + depth → Ready d t g h
      → ((u v : Grids) → Done d (t + sec d) g h u v → GoAlike r s fs u v) → GoAlike r s (step_of q c depth d t ++ fs) g h

  -- a nest's deeds begin with its force
  nest_deeds : (x : ℕ) → 1 < x → deeds_of p x ≡ forces ∷ rest_of x
  nest_deeds x nest = deeds_are x ∙ (λ z. (if above z then forces ∷ [] else []) ++ rest_of x)
    where
      above : nat_lt 1 x ≡ true
      above = grind (arith, nat_tests)

  -- so a nest at rest may be forced
  may_force : (x : ℕ) → IsDomain p x → 1 < x → (rest : List Deed) (g h : Grids) → AgreeWhereWanted p x rest g h → AgreeWhereWanted p x (forces ∷ rest_of x) g h
  may_force x dom nest rest g h agree = held p x rest (forces ∷ rest_of x) g h (λ f level w. at_start x f dom level (subst (λ (ds : List Deed). is_wanted p x ds f ≡ true) (sym (nest_deeds x nest)) w)) agree

  -- and may step again
  may_step : (x : ℕ) → IsDomain p x → 1 < x → (rest : List Deed) (g h : Grids) → AgreeWhereWanted p x rest g h → AgreeWhereWanted p x (rest_of x) g h
  may_step x dom nest rest g h agree = fewer p x forces (rest_of x) g h plain_forces (may_force x dom nest rest g h agree)

  at_rest : (x : ℕ) (rest : List Deed) (g h : Grids) → AgreeWhereWanted p x rest g h → AgreeWhereWanted p x [] g h
  at_rest x rest g h agree = held p x rest [] g h (λ f level w. none_more p x f w) agree

  -- ---- a nest's steps

  nest_steps : (depth : ℕ) → StepGoes depth → (x t : ℕ) → IsDomain p x → 1 < x → length p.domains < x + depth → (k l : ℕ) (fs : List Entry) (g h : Grids) → Ready x (t + l * sec x) g h
      → ((u v : Grids) → Done x (t + (l + suc k) * sec x) g h u v → GoAlike r s fs u v)
      → GoAlike r s (flat_map (λ a. step_of q c depth x (t + a * sec x)) (range_with_len l (suc k)) ++ fs) g h
  nest_steps depth goes_one x t dom nest deep zero l fs g h ready next =
      subst (λ es. GoAlike r s es g h) (sym (append_assoc (step_of q c depth x (t + l * sec x)) [] fs))
      (goes_one x (t + l * sec x) fs g h dom deep ready (λ u v done. next u v (subst (λ z. Done x z g h u v) (one_more t l (sec x)) done)))
    where
      one_more : (t l n : ℕ) → t + l * n + n ≡ t + (l + 1) * n
      one_more t l n = grind arith
  nest_steps depth goes_one x t dom nest deep (suc k) l fs g h ready next =
      let later : List Entry = flat_map (λ a. step_of q c depth x (t + a * sec x)) (range_with_len (l + 1) (suc k)) in
      subst (λ es. GoAlike r s es g h) (sym (append_assoc (step_of q c depth x (t + l * sec x)) later fs))
      (goes_one x (t + l * sec x) (later ++ fs) g h dom deep ready (λ u v done.
      let ready_on : Ready x (t + (l + 1) * sec x) u v = record { own = may_step x dom nest (last_of x) u v done.own; below = subst (λ z. Below x z u v) (one_more t l (sec x)) done.below } in
      nest_steps depth goes_one x t dom nest deep k (l + 1) fs u v ready_on (λ a b more. next a b (record {
        own = more.own;
        below = subst (λ z. Below x z a b) (ap (λ z. t + z * sec x) (moved l k)) more.below;
        outside = λ e off. let i = more.outside e off in let j = done.outside e off in (i.0 ∙ j.0, i.1 ∙ j.1);
      }))))
    where
      one_more : (t l n : ℕ) → t + l * n + n ≡ t + (l + 1) * n
      one_more t l n = grind arith

      moved : (l k : ℕ) → l + 1 + suc k ≡ l + suc (suc k)
      moved l k = omega arith

  -- ---- a domain's nests

  part : ℕ → ℕ → ℕ → ℕ → List Entry
  part depth step t x =
      if has_started_by q c x t
      then entry x (steps_by q c x t + 1) t Force
      ∷ (flat_map (λ n. step_of q c depth x (t + n * sec x)) (range_with_len 0 (domain_of q x).time_ratio)
      ++ (if q.feedback then entry x step t Feedback ∷ [] else []))
      else []

  backs : List Deed
  backs = if p.feedback then feeds ∷ [] else []

  -- the nest's steps fill its parent's
  nest_fills : (d x : ℕ) → IsChild p d x → sec x * (domain_of q x).time_ratio ≡ sec d
  unfolding sec
  nest_fills d x k =
      (λ z. ap (λ (y : Domain). y.seconds) ((alike r s m is).domains x) z * ap (λ (y : Domain). y.time_ratio) ((alike r s m is).domains x) z)
      ∙ ((sound.sound).nests x k.nest k.domain).seconds ∙ ap (λ z. (domain_of p z).seconds) k.parent
      ∙ sym (ap (λ (y : Domain). y.seconds) ((alike r s m is).domains d))

  some_sec : (d : ℕ) → IsDomain p d → 1 ≤ sec d
  unfolding sec
  some_sec d dom = let i : (domain_of q d).seconds ≡ (domain_of p d).seconds = ap (λ (y : Domain). y.seconds) ((alike r s m is).domains d) in omega (arith, (sound.sound).steps d dom, i)

  -- a nest that is forced and steps: how the run goes on from there
  record Nest (d x t : ℕ) (Z : List Deed) (g h u v : Grids) : Type 0 where
    own : AgreeWhereWanted p d (forces ∷ (backs ++ Z)) u v
    here : Rests x (t + sec d) u v
    below : Below x (t + sec d) u v
    apart : (e : ℕ) → (e ≡ d → ⊥) → (Under p x e → ⊥) → (u e ≡ g e) × (v e ≡ h e)

  -- what is wanted through a feedback
  again : (d : ℕ) (Z : List Deed) (g h : Grids) → AgreeWhereWanted p d (forces ∷ (feeds ∷ Z)) g h → AgreeWhereWanted p d (feeds ∷ (forces ∷ (feeds ∷ Z))) g h
  unfolding live_through
  again d Z g h agree = λ f level w.
      let kept : Bool = (field_of p f).restart in
      let u : Bool = is_some (field_of p f).up in
      let e : Bool = is_some (field_of p f).edge in
      let after : is_wanted p d (forces ∷ (feeds ∷ Z)) f ≡ (kept || (e || (u || live_through p d Z f)))
      = (λ z. kept || used_or e f (live_through p d (feeds ∷ Z)) z) ∙ (λ z. kept || (e || used_or u f (live_through p d Z) z)) in
      let before : is_wanted p d (feeds ∷ (forces ∷ (feeds ∷ Z))) f ≡ (kept || (u || (e || (u || live_through p d Z f))))
      = (λ z. kept || used_or u f (live_through p d (forces ∷ (feeds ∷ Z))) z) ∙ (λ z. kept || (u || used_or e f (live_through p d (feeds ∷ Z)) z)) ∙ (λ z. kept || (u || (e || used_or u f (live_through p d Z) z))) in
      agree f level (after ∙ twice kept u e (live_through p d Z f) (sym before ∙ w))
    where
      used_or : (b : Bool) (f : ℕ) (l : ℕ → Bool) → live_on (used_if b f) l ≡ (b || l f)
      used_or true f l = refl
      used_or false f l = refl

      twice : (kept u e l : Bool) → (kept || (u || (e || (u || l)))) ≡ true → (kept || (e || (u || l))) ≡ true
      twice true u e l w = refl
      twice false true true l w = refl
      twice false true false l w = refl
      twice false false e l w = w

  -- a nest's feedback, or none
  module _ (d step t x : ℕ) (Z : List Deed) (fs : List Entry) (g h u v f w : Grids) (k : IsChild p d x) (started : has_started_by q c x t ≡ true) (one : Apart_from x g h u v) (own : AgreeWhereWanted p d (forces ∷ (backs ++ Z)) g h)
      (done : Done x (t + sec d) u v f w) (next : (a b : Grids) → Nest d x t Z g h a b → GoAlike r s fs a b) where
    off_parent : Under p x d → ⊥
    off_parent under = let low : x ≤ d = under_low p sound.sound under in let l : d < x = child_above p sound.sound d x k in omega arith

    own_then : AgreeWhereWanted p d (forces ∷ (backs ++ Z)) f w
    own_then = let a = done.outside d off_parent in let b = one d (not_parent d x k) in along p d (forces ∷ (backs ++ Z)) g h f w (a.0 ∙ b.0) (a.1 ∙ b.1) own

    here_then : Rests x (t + sec d) f w
    here_then = record { quiet = at_rest x (last_of x) f w done.own; whole = λ off. absurd (differ (sym (begun (begin_of c x).resumed (begin_time q c x) (sec d) (some_sec d dom) started) ∙ off)) }
      where
        dom : IsDomain p d
        dom = subst (λ z. IsDomain p z) k.parent ((sound.sound).nests x k.nest k.domain).parent

        begun : (res : Bool) (bt n : ℕ) → 1 ≤ n → (res || nat_le bt t) ≡ true → (res || nat_lt bt (t + n)) ≡ true
        begun true bt n some e = refl
        begun false bt n some e = grind (arith, nat_tests)

    apart_then : (e : ℕ) → (Under p x e → ⊥) → (f e ≡ g e) × (w e ≡ h e)
    apart_then e under = let a = done.outside e under in let b = one e (λ i. under (self i)) in (a.0 ∙ b.0, a.1 ∙ b.1)

    no_back : GoAlike r s fs f w
    no_back = next f w (record { own = own_then; here = here_then; below = done.below; apart = λ e off under. apart_then e under })

    with_back : p.feedback ≡ true → GoAlike r s (entry x step t Feedback ∷ fs) f w
    unfolding backs last_of
    with_back on =
        let backs_are : backs ≡ feeds ∷ [] = λ z. if on z then feeds ∷ [] else [] in
        let last_is : last_of x ≡ feeds ∷ [] = λ z. if above_one x k.nest z && on z then feeds ∷ [] else [] in
        let into : AgreeWhereWanted p d (feeds ∷ (forces ∷ (feeds ∷ Z))) f w = again d Z f w (subst (λ (b : List Deed). AgreeWhereWanted p d (forces ∷ (b ++ Z)) f w) backs_are own_then) in
        let from : AgreeWhereWanted p x (feeds ∷ []) f w = subst (λ (b : List Deed). AgreeWhereWanted p x b f w) last_is done.own in
        let a : FeedbackGoesAlike p r.answers x (forces ∷ (feeds ∷ Z)) f w
        = feedback_alike p r.answers x (forces ∷ (feeds ∷ Z)) [] f w sound.sound k.nest k.domain (subst (λ z. AgreeWhereWanted p z (feeds ∷ (forces ∷ (feeds ∷ Z))) f w) (sym k.parent) into) from in
        let e : Entry = entry x step t Feedback in
        let y : Grids = grids_after r f e in
        let z : Grids = grids_after s w e in
        let from_y : y ≡ changed (feedback_change p r.answers f x) f = feedback_here r s m sound is x step t f in
        let from_z : z ≡ changed (feedback_change p r.answers w x) w = feedback_then r s m sound is x step t w in
        let only : Apart_from d f w y z = one_change (feedback_change p r.answers f x) (feedback_change p r.answers w x) d f w y z k.parent k.parent from_y from_z in
        let own_on : AgreeWhereWanted p d (forces ∷ (feeds ∷ Z)) y z
        = along p d (forces ∷ (feeds ∷ Z)) (changed (feedback_change p r.answers f x) f) (changed (feedback_change p r.answers w x) w) y z (λ i. from_y i d) (λ i. from_z i d)
        (subst (λ b. AgreeWhereWanted p b (forces ∷ (feeds ∷ Z)) (changed (feedback_change p r.answers f x) f) (changed (feedback_change p r.answers w x) w)) k.parent a.after) in (
          feedback_goes r s m sound is x step t (forces ∷ (feeds ∷ Z)) f w a,
          next y z (record {
            own = subst (λ (b : List Deed). AgreeWhereWanted p d (forces ∷ (b ++ Z)) y z) (sym backs_are) own_on;
            here = let i = only x (λ e. not_parent d x k (sym e)) in rests_along x (t + sec d) f w y z i.0 i.1 here_then;
            below = λ b bd under off. let i = only b (λ e. off_parent (subst (λ (n : ℕ). Under p x n) e under)) in rests_along b (t + sec d) f w y z i.0 i.1 (done.below b bd under off);
            apart = λ b off under. let i = only b off in let j = apart_then b under in (i.0 ∙ j.0, i.1 ∙ j.1);
          }),
        )
      where
        above_one : (x : ℕ) → 1 < x → nat_lt 1 x ≡ true
        above_one x nest = grind (arith, nat_tests)

    feedback_goes_on : GoAlike r s ((if q.feedback then entry x step t Feedback ∷ [] else []) ++ fs) f w
    feedback_goes_on = cases p.feedback refl
      where
        same : q.feedback ≡ p.feedback
        same = (alike r s m is).feedback

        cases : (b : Bool) → p.feedback ≡ b → GoAlike r s ((if q.feedback then entry x step t Feedback ∷ [] else []) ++ fs) f w
        cases true e = subst (λ (b : Bool). GoAlike r s ((if b then entry x step t Feedback ∷ [] else []) ++ fs) f w) (sym (same ∙ e)) (with_back e)
        cases false e = subst (λ (b : Bool). GoAlike r s ((if b then entry x step t Feedback ∷ [] else []) ++ fs) f w) (sym (same ∙ e)) no_back

  -- a nest's force, steps and feedback
  nest_goes : (depth : ℕ) → StepGoes depth → (d step t x : ℕ) (Z : List Deed) (fs : List Entry) (g h : Grids) → IsChild p d x → length p.domains < x + depth → has_started_by q c x t ≡ true
      → AgreeWhereWanted p d (forces ∷ (backs ++ Z)) g h → ((y : ℕ) → IsDomain p y → Under p x y → Rests y t g h)
      → ((u v : Grids) → Nest d x t Z g h u v → GoAlike r s fs u v)
      → GoAlike r s (part depth step t x ++ fs) g h
  unfolding part backs
  nest_goes depth goes_one d step t x Z fs g h k deep started own todo next =
      let nest : 1 < x = k.nest in
      let dom : IsDomain p x = k.domain in
      let above : List Deed = backs ++ Z in
      let quiet : AgreeWhereWanted p x [] g h = (todo x dom (self refl)).quiet in
      let a : ForceGoesAlike p r.answers x (rest_of x) g h = force_alike p r.answers x above (rest_of x) g h sound.sound nest dom (subst (λ z. AgreeWhereWanted p z (forces ∷ above) g h) (sym k.parent) own) (may_force x dom nest [] g h quiet) in
      let e : Entry = entry x (steps_by q c x t + 1) t Force in
      let u : Grids = grids_after r g e in
      let v : Grids = grids_after s h e in
      let from_u : u ≡ changed (force_change p r.answers g x) g = force_here r s m sound is x (steps_by q c x t + 1) t g in
      let from_v : v ≡ changed (force_change p r.answers h x) h = force_then r s m sound is x (steps_by q c x t + 1) t h in
      let one : Apart_from x g h u v = one_change (force_change p r.answers g x) (force_change p r.answers h x) x g h u v refl refl from_u from_v in
      let ready : Ready x t u v = record {
        own = along p x (rest_of x) (changed (force_change p r.answers g x) g) (changed (force_change p r.answers h x) h) u v (λ z. from_u z x) (λ z. from_v z x) a.after;
        below = λ y yd under off. let w = one y off in rests_along y t g h u v w.0 w.1 (todo y yd under);
      } in
      let back : List Entry = if q.feedback then entry x step t Feedback ∷ [] else [] in
      let steps : ℕ → List Entry = λ n. flat_map (λ l. step_of q c depth x (t + l * sec x)) (range_with_len 0 n) in
      let ratio : ℕ = (domain_of q x).time_ratio in
      let some_ratio : ratio ≡ suc (ratio - 1) = some_of (sec x) ratio (sec d) (nest_fills d x k) (some_sec d (parent_domain d x k)) in
      (λ (z : GoAlike r s ((e ∷ (steps ratio ++ back)) ++ fs) g h). subst (λ (b : Bool). GoAlike r s ((if b then e ∷ (steps ratio ++ back) else []) ++ fs) g h) (sym started) z) (
        force_goes r s m sound is x (steps_by q c x t + 1) t (rest_of x) g h a,
        subst (λ es. GoAlike r s es u v) (sym (append_assoc (steps ratio) back fs))
            (subst (λ n. GoAlike r s (steps n ++ (back ++ fs)) u v) (sym some_ratio)
            (nest_steps depth goes_one x t dom nest deep (ratio - 1) 0 (back ++ fs) u v (subst (λ z. Ready x z u v) (none_more_time t (sec x)) ready)
            (λ f w done0.
            let done : Done x (t + sec d) u v f w = subst (λ z. Done x z u v f w) (all_steps t (sec x) ratio (sec d) some_ratio (nest_fills d x k)) done0 in
            feedback_goes_on d step t x Z fs g h u v f w k started one own done next))),
      )
    where
      none_more_time : (t n : ℕ) → t ≡ t + 0 * n
      none_more_time t n = grind arith

      some_of : (a b c : ℕ) → a * b ≡ c → 1 ≤ c → b ≡ suc (b - 1)
      some_of a zero c e h = absurd (let none : a * 0 ≡ 0 = grind arith in omega (arith, e, h, none))
      some_of a (suc b) c e h = omega arith

      one_on : (n : ℕ) → suc n ≡ 0 + suc n
      one_on n = omega arith

      all_steps : (t a b c : ℕ) → b ≡ suc (b - 1) → a * b ≡ c → t + (0 + suc (b - 1)) * a ≡ t + c
      all_steps t a b c some e = let same : (0 + suc (b - 1)) * a ≡ c = ap (λ n. n * a) (sym (some ∙ (λ i. one_on (b - 1) i))) ∙ mul_comm b a ∙ e in ap (λ n. t + n) same

      parent_domain : (d x : ℕ) → IsChild p d x → IsDomain p d
      parent_domain d x k = subst (λ z. IsDomain p z) k.parent ((sound.sound).nests x k.nest k.domain).parent

  -- under one nest or another, or not under this one
  under_or_not : (d x y : ℕ) → IsChild p d x → Under p d y → (y ≡ d → ⊥) → Under p x y ⊎ (Under p x y → ⊥)
  under_or_not d x y k under off = ⊎_elim (λ e. absurd (off e))
      (λ w. ⊎_elim (λ e. inl (subst (λ (z : ℕ). Under p z y) e w.2)) (λ e. inr (λ i. e (under_one p sound.sound d w.0 x w.1 k w.2 i))) (equal_or_not w.0 x))
      (under_some p sound.sound d under)

  -- ---- a domain's nests, one after another

  part_none : (depth step t x : ℕ) → has_started_by q c x t ≡ false → part depth step t x ≡ []
  unfolding part
  part_none depth step t x e = if_false (has_started_by q c x t) _ [] e

  nests_go_on : (depth : ℕ) → StepGoes depth → (d step t : ℕ) (Z : List Deed) → length p.domains < d + suc depth → (xs : List ℕ) (fs : List Entry) (g h : Grids) → ((x : ℕ) → In x xs → IsChild p d x) → Apart xs
      → AgreeWhereWanted p d (forces ∷ (backs ++ Z)) g h → ((x : ℕ) → In x xs → (y : ℕ) → IsDomain p y → Under p x y → Rests y t g h) → Below d (t + sec d) g h
      → ((u v : Grids) → AgreeWhereWanted p d (forces ∷ (backs ++ Z)) u v → Below d (t + sec d) u v → Outside d g h u v → GoAlike r s fs u v)
      → GoAlike r s (flat_map (part depth step t) xs ++ fs) g h
  nests_go_on depth goes_one d step t Z deep [] fs g h child apart own todo below next = next g h own below (none_outside d g h)
  nests_go_on depth goes_one d step t Z deep (x ∷ xs) fs g h child apart own todo below next =
      subst (λ l. GoAlike r s l g h) (sym (append_assoc (part depth step t x) (flat_map (part depth step t) xs) fs))
      (cases (λ u v a b e o. nests_go_on depth goes_one d step t Z deep xs fs u v (λ y i. child y (inr i)) apart.1 a b e o) (has_started_by q c x t) refl)
    where
      k : IsChild p d x
      k = child x (inl refl)

      more : List Entry
      more = flat_map (part depth step t) xs ++ fs

      deeper : length p.domains < x + depth
      deeper = let l : d < x = child_above p sound.sound d x k in omega (arith, deep, l)

      cases : ((u v : Grids) → AgreeWhereWanted p d (forces ∷ (backs ++ Z)) u v → ((x : ℕ) → In x xs → (y : ℕ) → IsDomain p y → Under p x y → Rests y t u v) → Below d (t + sec d) u v
          → ((a b : Grids) → AgreeWhereWanted p d (forces ∷ (backs ++ Z)) a b → Below d (t + sec d) a b → Outside d u v a b → GoAlike r s fs a b) → GoAlike r s more u v)
          → (b : Bool) → has_started_by q c x t ≡ b → GoAlike r s (part depth step t x ++ more) g h
      cases again_on false e = subst (λ l. GoAlike r s (l ++ more) g h) (sym (part_none depth step t x e)) (again_on g h own (λ y i. todo y (inr i)) below next)
      cases again_on true e = nest_goes depth goes_one d step t x Z more g h k deeper e own (todo x (inl refl)) (λ u v nest.
          again_on u v nest.own
          (λ b i y yd under.
          let kb : IsChild p d b = child b (inr i) in
          let other : Under p x y → ⊥ = λ w. apart.0 b i (under_one p sound.sound d x b k kb w under) in
          let off : y ≡ d → ⊥ = λ j. (let low : b ≤ y = under_low p sound.sound under in let l : d < b = child_above p sound.sound d b kb in omega arith) in
          let w = nest.apart y off other in rests_along y t g h u v w.0 w.1 (todo b (inr i) y yd under))
          (λ y yd under off. ⊎_elim
          (λ i. ⊎_elim (λ j. subst (λ z. Rests z (t + sec d) u v) (sym j) nest.here) (λ j. nest.below y yd i j) (equal_or_not y x))
          (λ i. let w = nest.apart y off i in rests_along y (t + sec d) g h u v w.0 w.1 (below y yd under off))
          (under_or_not d x y k under off))
          (λ a b own2 below2 out. next a b own2 below2 (λ y off. let w = out y off in let z = nest.apart y (λ i. off (self i)) (λ i. off (under_child p sound.sound d x k i)) in (w.0 ∙ z.0, w.1 ∙ z.1))))

  -- ---- a whole step

  children_same : (d : ℕ) → children q d ≡ children p d
  unfolding children
  children_same d = λ i. filter (λ x. ap (λ (y : Domain). y.parent) ((alike r s m is).domains x) i == d) (filter (nat_lt 1) (range_with_len 1 ((alike r s m is).count i)))

  all_under : (fuel x : ℕ) → x ≤ fuel → IsDomain p x → Under p 1 x
  all_under zero x le dom = absurd (omega (arith, le, dom.0))
  all_under (suc fuel) x le dom = elim (cases_lt 1 x) [
    | inl nest ↦ let sn : IsSoundNest p x = (sound.sound).nests x nest dom in up dom nest (all_under fuel (domain_of p x).parent (omega (arith, sn.before, le)) sn.parent)
    | inr first ↦ self (omega (arith, first, dom.0))
  ]

  without_backs : (d : ℕ) (Z : List Deed) (g h : Grids) → AgreeWhereWanted p d (forces ∷ (backs ++ Z)) g h → AgreeWhereWanted p d Z g h
  unfolding backs
  without_backs d Z g h agree = drop p.feedback (fewer p d forces (backs ++ Z) g h plain_forces agree)
    where
      drop : (b : Bool) → AgreeWhereWanted p d ((if b then feeds ∷ [] else []) ++ Z) g h → AgreeWhereWanted p d Z g h
      drop true a = fewer p d feeds Z g h plain_feeds a
      drop false a = a

  range_apart : (a n : ℕ) → Apart (range_with_len a n)
  range_apart a zero = tt
  range_apart a (suc n) = ((λ x i e. let l = In-range_out x (a + 1) n i in later a x l.0 e), range_apart (a + 1) n)
    where
      later : (a x : ℕ) → a + 1 ≤ x → a ≡ x → ⊥
      later a x l e = omega arith

  filter_apart : (test : ℕ → Bool) (xs : List ℕ) → Apart xs → Apart (filter test xs)
  filter_apart test [] h = tt
  filter_apart test (x ∷ xs) h =
      (elim (test x) as (λ b. Apart (cond b (x ∷ filter test xs) (filter test xs))) [
        | true ↦ ((λ y i e. h.0 y (In-filter_out test y xs i).0 e), filter_apart test xs h.1)
        | false ↦ filter_apart test xs h.1
      ])

  children_apart : (a : ℕ) → Apart (children p a)
  unfolding children
  children_apart a = filter_apart (λ x. (domain_of p x).parent == a) (filter (nat_lt 1) (domains_of p)) (filter_apart (nat_lt 1) (domains_of p) (range_apart 1 (length p.domains)))

  regroup : (a b n d r es : List Entry) → ((((a ++ b) ++ n) ++ d) ++ r) ++ es ≡ a ++ (b ++ (n ++ (d ++ (r ++ es))))
  regroup a b n d r es =
      append_assoc (((a ++ b) ++ n) ++ d) r es ∙ append_assoc ((a ++ b) ++ n) d (r ++ es) ∙ append_assoc (a ++ b) n (d ++ (r ++ es)) ∙ append_assoc a b (n ++ (d ++ (r ++ es)))

  module _ (d t : ℕ) (fs : List Entry) (g h : Grids) (dom : IsDomain p d) (next : (u v : Grids) → Done d (t + sec d) g h u v → GoAlike r s fs u v) (step : ℕ) where
    -- its frames, and those of restart files
    abbrev lasts : List Entry
    lasts = if d == 1 then restart_frames q c step (t + sec d) else []

    last_frames : (u v : Grids) → AgreeWhereWanted p d (last_of d) u v → Below d (t + sec d) u v → GoAlike r s fs u v → GoAlike r s (lasts ++ fs) u v
    last_frames u v own below go = elim (split_bool (d == 1)) [
      | inl e ↦ subst (λ (b : Bool). GoAlike r s ((if b then restart_frames q c step (t + sec d) else []) ++ fs) u v) (sym e) (when (is_due q.restart_steps step) (equal_of d 1 e))
      | inr e ↦ subst (λ (b : Bool). GoAlike r s ((if b then restart_frames q c step (t + sec d) else []) ++ fs) u v) (sym e) go
    ]
      where
        end : ℕ
        end = t + sec d

        known : List ℕ
        known = filter (λ x. (begin_of c x).resumed || nat_lt (begin_time q c x) (t + sec d)) (domains_of q)

        each : d ≡ 1 → (a : ℕ) → In a known → IsDomain p a × AgreeWhereWanted p a [] u v
        each one a i =
            let l = In-range_out a 1 (length q.domains) (In-filter_out (λ x. (begin_of c x).resumed || nat_lt (begin_time q c x) (t + sec d)) a (domains_of q) i).0 in
            let ad : IsDomain p a = (l.0, omega (arith, l.1, (alike r s m is).count)) in
            (ad, ⊎_elim (λ e. subst (λ z. AgreeWhereWanted p z [] u v) (sym e) (at_rest d (last_of d) u v own)) (λ off. (below a ad (subst (λ (z : ℕ). Under p z a) (sym one) (all_under a a (omega arith) ad)) off).quiet) (equal_or_not a d))

        when : (b : Bool) → d ≡ 1 → GoAlike r s ((if b then map (λ x. entry x (steps_by q c x (t + sec d)) (t + sec d) (Emit restart_stream)) known else []) ++ fs) u v
        when true one = restarts_go_on (λ x. steps_by q c x (t + sec d)) (t + sec d) known fs u v (each one) go
        when false one = go

    frames_and_lasts : (u v : Grids) → AgreeWhereWanted p d (ends_of d) u v → Below d (t + sec d) u v → Outside d g h u v → GoAlike r s (due_frames q c d step (t + sec d) ++ (lasts ++ fs)) u v
    unfolding ends_of
    frames_and_lasts u v agree below out =
        let own : AgreeWhereWanted p d (last_of d) u v = past_frames d (range_with_len 0 10) (last_of d) u v agree in
        frames_go_on d step (t + sec d) (filter (λ a. is_due (interval q c d a) step) (range_with_len 0 10)) (lasts ++ fs) u v dom
        (λ a i. frame_wanted d a (last_of d) u v (In-filter_out (λ a. is_due (interval q c d a) step) a (range_with_len 0 10) i).0 agree)
        (last_frames u v own below (next u v (record { own = own; below = below; outside = out })))

    -- the table, and then what follows
    table_and : (rest : List Deed) (more : List Entry) (u v : Grids) → AgreeWhereWanted p d (map item_done p.items ++ rest) u v → ((x y : Grids) → AgreeWhereWanted p d rest x y → Apart_from d u v x y → GoAlike r s more x y)
        → GoAlike r s (table q c d step t ++ more) u v
    table_and rest more u v agree on =
        subst (λ n. GoAlike r s (map (λ a. entry d step t (Table a)) (range_with_len 0 n) ++ more) u v) (sym (ap length ((alike r s m is).items)))
        (table_goes_on d step t dom (length p.items) 0 rest more u v (zero_left (length p.items)) (subst (λ (ds : List Deed). AgreeWhereWanted p d (ds ++ rest) u v) items_are agree) on)
      where
        zero_left : (n : ℕ) → 0 + n ≡ n
        zero_left n = omega arith

  -- nests that start, in a step that begins at this time
  starting : ℕ → List ℕ → List Entry
  starting t xs = flat_map (λ x. if starts_at q c x t then entry x 0 t Start ∷ start_frames q c x t else []) xs

  module _ (depth : ℕ) (goes_one : StepGoes depth) (d t : ℕ) (fs : List Entry) (g h : Grids) (dom : IsDomain p d) (deep : length p.domains < d + suc depth) (ready : Ready d t g h) (next : (u v : Grids) → Done d (t + sec d) g h u v → GoAlike r s fs u v) (step : ℕ) where
    abbrev behind_nests : List Entry
    behind_nests = due_frames q c d step (t + sec d) ++ ((if d == 1 then restart_frames q c step (t + sec d) else []) ++ fs)

    -- all under d, past changes of d alone
    still : (u v x y : Grids) → Apart_from d u v x y → Below d t u v → Below d t x y
    still u v x y apart below = λ e ed under off. let w = apart e off in rests_along e t u v x y w.0 w.1 (below e ed under off)

    later_on : (x y : Grids) → Below d t x y → Below d (t + sec d) x y
    later_on x y below = λ e ed under off. rests_later e t (sec d) x y (below e ed under off)

    no_nests : children p d ≡ [] → GoAlike r s (starting t [] ++ (table q c d step t ++ (flat_map (part depth step t) [] ++ behind_nests))) g h
    unfolding starting rest_of nests_of back_of
    no_nests none =
        let own : AgreeWhereWanted p d (map item_done p.items ++ ends_of d) g h
        = subst (λ (xs : List ℕ). AgreeWhereWanted p d (if_any xs (starts_nests ∷ []) ++ (map item_done p.items ++ (if_any xs (forces ∷ (if p.feedback then feeds ∷ [] else [])) ++ ends_of d))) g h) none ready.own in
        table_and d t fs g h dom next step (ends_of d) behind_nests g h own (λ x y agree apart.
        frames_and_lasts d t fs g h dom next step x y agree (later_on x y (still g h x y apart ready.below)) (λ e off. apart e (λ i. off (self i))))

    with_nests : (k : ℕ) (ks : List ℕ) → children p d ≡ k ∷ ks → GoAlike r s (starting t (k ∷ ks) ++ (table q c d step t ++ (flat_map (part depth step t) (k ∷ ks) ++ behind_nests))) g h
    unfolding starting rest_of nests_of back_of backs
    with_nests k ks are =
        let xs : List ℕ = k ∷ ks in
        let child : (x : ℕ) → In x xs → IsChild p d x = λ x i. child_of p d x (subst (λ (ys : List ℕ). In x ys) (sym are) i) in
        let one_each : Apart xs = subst (λ (ys : List ℕ). Apart ys) are (children_apart d) in
        let left : List Deed = forces ∷ (backs ++ ends_of d) in
        let own : AgreeWhereWanted p d (starts_nests ∷ (map item_done p.items ++ left)) g h
        = subst (λ (ys : List ℕ). AgreeWhereWanted p d (if_any ys (starts_nests ∷ []) ++ (map item_done p.items ++ (if_any ys (forces ∷ (if p.feedback then feeds ∷ [] else [])) ++ ends_of d))) g h) are ready.own in
        starts_go_on d t (map item_done p.items ++ left) xs (table q c d step t ++ (flat_map (part depth step t) xs ++ behind_nests)) g h child own ready.below (λ u v own2 below2 out2.
        table_and d t fs g h dom next step left (flat_map (part depth step t) xs ++ behind_nests) u v (fewer p d starts_nests (map item_done p.items ++ left) u v plain_starts own2) (λ x y agree apart.
        nests_go_on depth goes_one d step t (ends_of d) deep xs behind_nests x y child one_each agree
        (λ a i b bd under.
        let kb : IsChild p d a = child a i in
        let off : b ≡ d → ⊥ = λ j. (let low : a ≤ b = under_low p sound.sound under in let l : d < a = child_above p sound.sound d a kb in omega arith) in
        still u v x y apart below2 b bd (under_child p sound.sound d a kb under) off)
        (later_on x y (still u v x y apart below2))
        (λ a b own4 below4 out4. frames_and_lasts d t fs g h dom next step a b (without_backs d (ends_of d) a b own4) below4
        (λ e off. let i = out4 e off in let j = apart e (λ z. off (self z)) in let w = out2 e off in (i.0 ∙ j.0 ∙ w.0, i.1 ∙ j.1 ∙ w.1)))))

    body : (xs : List ℕ) → children p d ≡ xs → GoAlike r s (starting t xs ++ (table q c d step t ++ (flat_map (part depth step t) xs ++ behind_nests))) g h
    body [] are = no_nests are
    body (k ∷ ks) are = with_nests k ks are

  step_goes : (depth : ℕ) → StepGoes depth
  unfolding step_of starting part sec
  step_goes zero d t fs g h dom deep ready next = absurd (omega (arith, deep, dom.1))
  step_goes (suc depth) d t fs g h dom deep ready next =
      let step : ℕ = steps_by q c d t + 1 in
      subst (λ es. GoAlike r s es g h) (sym (regroup (starts q c d t) (table q c d step t) (flat_map (part depth step t) (children q d)) (due_frames q c d step (t + sec d)) (if d == 1 then restart_frames q c step (t + sec d) else []) fs))
      (subst (λ (xs : List ℕ). GoAlike r s (starting t xs ++ (table q c d step t ++ (flat_map (part depth step t) xs ++ (due_frames q c d step (t + sec d) ++ ((if d == 1 then restart_frames q c step (t + sec d) else []) ++ fs))))) g h) (sym (children_same d))
      (body depth (step_goes depth) d t fs g h dom deep ready next step (children p d) refl))

  -- ---- all steps of domain 1

  steps_go_on : (n k : ℕ) (g h : Grids) → 1 ≤ length p.domains → Ready 1 (k * sec 1) g h → GoAlike r s (flat_map (λ a. step_of q c (length p.domains) 1 (a * sec 1)) (range_with_len k n)) g h
  steps_go_on zero k g h first ready = tt
  steps_go_on (suc n) k g h first ready =
      step_goes (length p.domains) 1 (k * sec 1) (flat_map (λ a. step_of q c (length p.domains) 1 (a * sec 1)) (range_with_len (k + 1) n)) g h (omega arith, first) (omega arith) ready
      (λ u v done. steps_go_on n (k + 1) u v first (record {
        own = first_again u v done.own;
        below = subst (λ z. Below 1 z u v) (one_more k (sec 1)) done.below;
      }))
    where
      one_more : (k n : ℕ) → k * n + n ≡ (k + 1) * n
      one_more k n = grind arith

      first_again : (u v : Grids) → AgreeWhereWanted p 1 (last_of 1) u v → AgreeWhereWanted p 1 (rest_of 1) u v
      first_again u v agree = held p 1 (last_of 1) (rest_of 1) u v (λ f level w. at_start 1 f (omega arith, first) level (subst (λ (ds : List Deed). is_wanted p 1 ds f ≡ true) (sym (deeds_are 1)) w)) agree

  -- ---- where it begins

  -- a restart file's levels
  gone_on : (x : ℕ) → IsDomain p x → goes_on r m x ≡ true → AgreeWhereWanted p x [] (grids_at r (place_after r m)) (begin_grids s)
  gone_on x dom on = λ f level w. restored r s m sound is x f dom level on (none_more p x f w)

  begins_at_rest : (x : ℕ) → m ≤ p.steps → IsDomain p x → 1 < x → Rests x 0 (grids_at r (place_after r m)) (begin_grids s)
  begins_at_rest x within dom nest = elim (split_bool (goes_on r m x)) [
    | inl on ↦ record {
      quiet = gone_on x dom on;
      whole = λ off. absurd (differ (sym (or_left (begin_of c x).resumed (nat_lt (begin_time q c x) 0) (ap (λ (b : Begin). b.resumed) (goes r s m x is dom on))) ∙ off));
    }
    | inr off ↦ rests_whole x 0 (grids_at r (place_after r m)) (begin_grids s) (λ f level k j i a e z. untouched r m x sound within nest off f k j i ∙ sym (waiting r s m sound is x dom nest off f k j i))
  ]

  begins_ready : m ≤ p.steps → goes_on r m 1 ≡ true → 1 ≤ length p.domains → Ready 1 (0 * sec 1) (grids_at r (place_after r m)) (begin_grids s)
  begins_ready within on first =
      let dom : IsDomain p 1 = (omega arith, first) in
      let g : Grids = grids_at r (place_after r m) in
      record {
        own = held p 1 [] (rest_of 1) g (begin_grids s) (λ f level w. at_start 1 f dom level (subst (λ (ds : List Deed). is_wanted p 1 ds f ≡ true) (sym (deeds_are 1)) w)) (gone_on 1 dom on);
        below = λ x xd under off. subst (λ t. Rests x t g (begin_grids s)) (no_time (sec 1)) (begins_at_rest x within xd (above x xd.0 off));
      }
    where
      no_time : (n : ℕ) → 0 ≡ 0 * n
      no_time n = grind arith

      above : (x : ℕ) → 1 ≤ x → (x ≡ 1 → ⊥) → 1 < x
      above x le off = ⊎_elim (λ e. absurd (off (sym e))) (λ l. l) (equal_or_less 1 x le)

  whole_run : m ≤ p.steps → goes_on r m 1 ≡ true → 1 ≤ length p.domains → IsDomain p 1 → GoAlike r s (script s) (grids_at r (place_after r m)) (begin_grids s)
  unfolding script_of sec
  whole_run within on first dom =
      let resumed : (begin_of c 1).resumed ≡ true = ap (λ (b : Begin). b.resumed) (goes r s m 1 is dom on) in
      subst (λ (b : Bool). GoAlike r s ((if b then [] else start_frames q c 1 0) ++ flat_map (λ n. step_of q c (length q.domains) 1 (n * (domain_of q 1).seconds)) (range_with_len 0 q.steps)) (grids_at r (place_after r m)) (begin_grids s)) (sym resumed)
      (subst (λ n. GoAlike r s (flat_map (λ a. step_of q c n 1 (a * (domain_of q 1).seconds)) (range_with_len 0 q.steps)) (grids_at r (place_after r m)) (begin_grids s)) (sym ((alike r s m is).count))
      (steps_go_on q.steps 0 (grids_at r (place_after r m)) (begin_grids s) first (begins_ready within on first)))

pub go_alike : ContinuedRunsGoAlike
go_alike r s m sound live time is =
    let first : 1 ≤ length r.plan.domains = (sound.sound).some in
    whole_run r s m sound live (ever r.plan.restart_steps _ time.due) is time.within (first_goes r m sound time.some) first (omega arith, first)
  where
    ever : (n k : ℕ) → is_due n k ≡ true → 1 ≤ n
    ever zero k e = absurd (differ (sym e))
    ever (suc n) k e = omega arith
