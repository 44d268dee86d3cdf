-- An event that is enabled stays enabled until it comes itself, whatever comes in between.
use Rattle.std.proofs.Common.{◌≡◌, ◌⊎◌, inl, inr, ℕ, ◌%◌, ◌==◌, ◌&&◌, Bool, true, false, not, List, [], ◌∷◌, All, Option, Some, None, refl, ap, sym, ◌∙◌, subst}
use Rattle.std.specs.Prelude.{slice_get, is_some}
use Rattle.std.proofs.lemmas.Bool.{eqb-true}
use Rattle.std.proofs.lemmas.List.Elements.{All-head, All-tail}
use Rattle.wf_model.specs.declared.layout.Layout.{Layout}
use Rattle.wf_model.specs.declared.frame.Frame.{Frame}
use Rattle.wf_model.specs.declared.event.Event.{Event}
use Rattle.wf_model.specs.declared.event.Event.TheVariants.{Step, Take, Stop, Gather, Write}
use Rattle.wf_model.specs.Numbers.{and_then}
use Rattle.wf_model.specs.Outcome.{RunData}
use Rattle.wf_model.specs.Frames.{frames_of}
use Rattle.wf_model.specs.Patches.{split_of}
use Rattle.wf_model.specs.Exchange.{senders_to}
use Rattle.wf_model.specs.Halves.{Half, acts, sends, takes, posts, Due}
use Rattle.wf_model.specs.Core.{CoreState, letter_of, has_mail, is_lost}
use Rattle.wf_model.specs.Replay.{goes, may_step, may_take, may_stop, patch_may, variable_number, is_for_server, is_enabled, state_after_event, if_enabled, replay_from}
use Rattle.wf_laws.proofs.Bools.{and_left, and_right, differ}
use Rattle.wf_core_laws.proofs.Options.{some_and_none}
use Rattle.wf_core_laws.proofs.Members.{or_parts, not_both, all-at, any-found}
use Rattle.wf_core_laws.proofs.Sane.{Sane}
use Rattle.wf_core_laws.proofs.Kept.{DueHere, due_here_of, kept}
use Rattle.wf_core_laws.specs.Patches.{IsOfOthers}
use Rattle.wf_core_laws.proofs.Persists.{step_persists, take_persists, stop_persists}
use Rattle.wf_core_laws.proofs.PersistsQuilt.{GathersOther, WritesNone, gather_persists, write_persists}

-- a test does not hold together with its denial
true_and_not : (b : Bool) → b ≡ true → not b ≡ true → ⊥
true_and_not true h k = cc (k)
true_and_not false h k = cc (h)

module _ (r : RunData) (layout : Layout) where
  -- a test of a patch's half
  abbrev Test : Type 0
  Test = CoreState → ℕ → ℕ → Due → Half → Bool

  -- two tests that no half passes both
  abbrev Exclude : Test → Test → Type 0
  Exclude a b = (s : CoreState) (d p : ℕ) (due : Due) (h : Half) → a s d p due h ≡ true → b s d p due h ≡ true → ⊥

  -- then not both events are enabled
  never_both : (a b : Test) → Exclude a b → (s : CoreState) (d p c q : ℕ) → patch_may r layout a s c q ≡ true → patch_may r layout b s d p ≡ true → c ≡ d → q ≡ p → ⊥
  never_both a b not_both s d p c q on on2 same_d same_p =
      let here : patch_may r layout a s d p ≡ true = subst (λ (y : ℕ). patch_may r layout a s d y ≡ true) same_p (subst (λ (y : ℕ). patch_may r layout a s y q ≡ true) same_d on) in
      let x : DueHere r layout s d p a = due_here_of r layout a s d p here in
      let y : DueHere r layout s d p b = due_here_of r layout b s d p on2 in
      let same : Some x.due ≡ Some y.due = sym x.is ∙ y.is in
      let is : x.due ≡ y.due = cc (same) in
      not_both s d p y.due (y.due).half (subst (λ (u : Due). a s d p u u.half ≡ true) is x.passes) y.passes

  -- no half is both stepped and taken
  step_or_take : Exclude (may_step r layout) (may_take r layout)
  step_or_take s d p due acts a b = cc (b)
  step_or_take s d p due sends a b = cc (b)
  step_or_take s d p due takes a b = cc (a)
  step_or_take s d p due (posts levels) a b = cc (b)

  -- no half both steps and stops
  step_or_stop : Exclude (may_step r layout) (may_stop r layout)
  step_or_stop s d p due acts a b = true_and_not (goes r layout s d p due) a b
  step_or_stop s d p due sends a b = cc (b)
  step_or_stop s d p due takes a b = cc (a)
  step_or_stop s d p due (posts levels) a b = cc (b)

  -- all mail is there, or some is lost
  mail_or_lost : (s : CoreState) (due : Due) (p : ℕ) → has_mail r layout s due p ≡ true → is_lost r layout s due p ≡ true → ⊥
  mail_or_lost s due p all lost =
      let g = any-found _ (senders_to r.plan (split_of layout) due.entry p) lost in
      some_and_none (letter_of s due.place g.q p) (all-at (λ q. is_some (letter_of s due.place q p)) (senders_to r.plan (split_of layout) due.entry p) g.q all g.is) (and_left _ _ g.passes)

  -- no half is both taken and stopped
  take_or_stop : Exclude (may_take r layout) (may_stop r layout)
  take_or_stop s d p due acts a b = cc (a)
  take_or_stop s d p due sends a b = cc (a)
  take_or_stop s d p due takes a b =
      elim (or_parts (has_mail r layout s due p && not (goes r layout s d p due)) (is_lost r layout s due p) b) [
        | inl both ↦ true_and_not (goes r layout s d p due) (and_right (has_mail r layout s due p) _ a) (and_right (has_mail r layout s due p) _ both)
        | inr lost ↦ mail_or_lost s due p (and_left _ (goes r layout s d p due) a) lost
      ]
  take_or_stop s d p due (posts levels) a b = cc (a)

  -- excluding goes both ways
  flip : (a b : Test) → Exclude a b → Exclude b a
  flip a b h s d p due half x y = h s d p due half y x

  -- a piece goes to one server
  one_server : (g v g2 v2 f : ℕ) (o : Option Frame) → is_for_server r layout g v f o ≡ true → is_for_server r layout g2 v2 f o ≡ true → (g ≡ g2) × (v ≡ v2)
  one_server g v g2 v2 f None a b = absurd (cc (a))
  one_server g v g2 v2 f (Some frame) a b =
      let n = frame.number % layout.groups in
      let m = variable_number r layout frame f % layout.servers in
      (sym (eqb-true n g (and_left (n == g) _ a)) ∙ eqb-true n g2 (and_left (n == g2) _ b), sym (eqb-true m v (and_right (n == g) _ a)) ∙ eqb-true m v2 (and_right (n == g2) _ b))

  -- two different events that are enabled do not meet
  other : (s : CoreState) (d p : ℕ) (test : Test) (e : ℕ → ℕ → Event) (x : Event) → is_enabled r layout s x ≡ true → patch_may r layout test s d p ≡ true → (x ≡ e d p → ⊥)
      → ((c q : ℕ) → Step c q ≡ e c q) ⊎ Exclude (may_step r layout) test → ((c q : ℕ) → Take c q ≡ e c q) ⊎ Exclude (may_take r layout) test → ((c q : ℕ) → Stop c q ≡ e c q) ⊎ Exclude (may_stop r layout) test → IsOfOthers d p x
  unfolding is_enabled
  other s d p test e (Step c q) on on2 differ step take stop = λ same_d same_p. elim step [
    | inl w ↦ differ (w c q ∙ ap (λ (y : ℕ). e y q) same_d ∙ ap (e d) same_p)
    | inr w ↦ never_both (may_step r layout) test w s d p c q on on2 same_d same_p
  ]
  other s d p test e (Take c q) on on2 differ step take stop = λ same_d same_p. elim take [
    | inl w ↦ differ (w c q ∙ ap (λ (y : ℕ). e y q) same_d ∙ ap (e d) same_p)
    | inr w ↦ never_both (may_take r layout) test w s d p c q on on2 same_d same_p
  ]
  other s d p test e (Stop c q) on on2 differ step take stop = λ same_d same_p. elim stop [
    | inl w ↦ differ (w c q ∙ ap (λ (y : ℕ). e y q) same_d ∙ ap (e d) same_p)
    | inr w ↦ never_both (may_stop r layout) test w s d p c q on on2 same_d same_p
  ]
  other s d p test e (Gather group server frame f q) on on2 differ step take stop = tt
  other s d p test e (Write n) on on2 differ step take stop = tt

  -- two different Gathers that are enabled gather different pieces
  gathers_other : (s : CoreState) (group server frame f p : ℕ) (x : Event) → is_enabled r layout s x ≡ true → is_enabled r layout s (Gather group server frame f p) ≡ true → (x ≡ Gather group server frame f p → ⊥) → GathersOther frame f p x
  unfolding is_enabled
  gathers_other s group server frame f p (Step c q) on on2 differ = tt
  gathers_other s group server frame f p (Take c q) on on2 differ = tt
  gathers_other s group server frame f p (Stop c q) on on2 differ = tt
  gathers_other s group server frame f p (Gather g2 v2 frame2 f2 q) on on2 differ = λ same_frame same_f same_p.
      let for2 : is_for_server r layout g2 v2 f2 (slice_get (frames_of r) frame2) ≡ true = and_left _ _ on in
      let for3 : is_for_server r layout g2 v2 f (slice_get (frames_of r) frame) ≡ true =
      subst (λ (y : ℕ). is_for_server r layout g2 v2 f (slice_get (frames_of r) y) ≡ true) (sym same_frame) (subst (λ (y : ℕ). is_for_server r layout g2 v2 y (slice_get (frames_of r) frame2) ≡ true) (sym same_f) for2) in
      let one = one_server g2 v2 group server f (slice_get (frames_of r) frame) for3 (and_left _ _ on2) in
      differ (ap (λ (y : ℕ). Gather y v2 frame2 f2 q) one.0 ∙ ap (λ (y : ℕ). Gather group y frame2 f2 q) one.1 ∙ ap (λ (y : ℕ). Gather group server y f2 q) (sym same_frame) ∙ ap (λ (y : ℕ). Gather group server frame y q) (sym same_f) ∙ ap (Gather group server frame f) (sym same_p))
  gathers_other s group server frame f p (Write n) on on2 differ = tt

  -- beside a Write no other Write is enabled
  writes_none : (s : CoreState) (n : ℕ) (x : Event) → is_enabled r layout s x ≡ true → is_enabled r layout s (Write n) ≡ true → (x ≡ Write n → ⊥) → WritesNone x
  unfolding is_enabled
  writes_none s n (Step c q) on on2 differ = tt
  writes_none s n (Take c q) on on2 differ = tt
  writes_none s n (Stop c q) on on2 differ = tt
  writes_none s n (Gather group server frame f p) on on2 differ = tt
  writes_none s n (Write m) on on2 differ =
      differ (ap (λ (y : ℕ). Write y) (eqb-true m s.written (and_left (m == s.written) _ on) ∙ sym (eqb-true n s.written (and_left (n == s.written) _ on2))))

  -- what an enabled Step says of its patch
  open_step : (s : CoreState) (d p : ℕ) → is_enabled r layout s (Step d p) ≡ true → patch_may r layout (may_step r layout) s d p ≡ true
  unfolding is_enabled
  open_step s d p h = h

  -- what an enabled Take says of its patch
  open_take : (s : CoreState) (d p : ℕ) → is_enabled r layout s (Take d p) ≡ true → patch_may r layout (may_take r layout) s d p ≡ true
  unfolding is_enabled
  open_take s d p h = h

  -- what an enabled Stop says of its patch
  open_stop : (s : CoreState) (d p : ℕ) → is_enabled r layout s (Stop d p) ≡ true → patch_may r layout (may_stop r layout) s d p ≡ true
  unfolding is_enabled
  open_stop s d p h = h

  -- through one event
  pub stays_on : (s : CoreState) (x e : Event) → Sane r layout s → is_enabled r layout s x ≡ true → is_enabled r layout s e ≡ true → (x ≡ e → ⊥) → is_enabled r layout (state_after_event r layout s x) e ≡ true
  stays_on s x (Step d p) ok on on2 differ = step_persists r layout s x d p ok on (other s d p (may_step r layout) Step x on (open_step s d p on2) differ (inl (λ c q. refl)) (inr (flip (may_step r layout) (may_take r layout) step_or_take)) (inr (flip (may_step r layout) (may_stop r layout) step_or_stop))) on2
  stays_on s x (Take d p) ok on on2 differ = take_persists r layout s x d p ok on (other s d p (may_take r layout) Take x on (open_take s d p on2) differ (inr step_or_take) (inl (λ c q. refl)) (inr (flip (may_take r layout) (may_stop r layout) take_or_stop))) on2
  stays_on s x (Stop d p) ok on on2 differ = stop_persists r layout s x d p ok on (other s d p (may_stop r layout) Stop x on (open_stop s d p on2) differ (inr step_or_stop) (inr take_or_stop) (inl (λ c q. refl))) on2
  stays_on s x (Gather group server frame f p) ok on on2 differ = gather_persists r layout s x group server frame f p (gathers_other s group server frame f p x on on2 differ) on2
  stays_on s x (Write n) ok on on2 differ = write_persists r layout s x n on (writes_none s n x on on2 differ) on2

  -- through a list of events
  pub stays_through : (s : CoreState) (es : List Event) (t : CoreState) (e : Event) → Sane r layout s → is_enabled r layout s e ≡ true → replay_from r layout s es ≡ Some t → All (λ x. x ≡ e → ⊥) es → is_enabled r layout t e ≡ true
  unfolding replay_from
  stays_through s [] t e ok on h differ = let w : s ≡ t = cc (h) in subst (λ (u : CoreState). is_enabled r layout u e ≡ true) w on
  stays_through s (x ∷ es) t e ok on h differ =
      (elim (is_enabled r layout s x) as (λ b. is_enabled r layout s x ≡ b → and_then (if_enabled b (state_after_event r layout s x)) (λ u. replay_from r layout u es) ≡ Some t → is_enabled r layout t e ≡ true) [
        | true ↦ λ on2 go. stays_through (state_after_event r layout s x) es t e (kept r layout s x ok on2) (stays_on s x e ok on2 on (All-head (λ y. y ≡ e → ⊥) x es differ)) go (All-tail (λ y. y ≡ e → ⊥) x es differ)
        | false ↦ λ off none. absurd (cc (none))
      ]) refl h
