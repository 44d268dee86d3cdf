-- What a patch is offered stays through the events of others, and no patch goes back.
use Rattle.std.proofs.Common.{◌≡◌, inl, inr, ℕ, ◌||◌, true, false, List, [], ◌∷◌, All, Some, refl, ap, sym, ◌∙◌, subst}
use Rattle.std.proofs.lemmas.List.Elements.{All-head, All-tail}
use Rattle.wf_model.specs.declared.layout.Layout.{Layout}
use Rattle.wf_model.specs.declared.script.Entry.{Entry}
use Rattle.wf_model.specs.declared.event.Event.{Event}
use Rattle.wf_model.specs.Numbers.{and_then}
use Rattle.wf_model.specs.Outcome.{RunData}
use Rattle.wf_model.specs.Patches.{split_of, patches_of}
use Rattle.wf_model.specs.PatchEffect.{Memory, Mail, computing, taking}
use Rattle.wf_model.specs.Halves.{Half, acts, sends, takes, posts, Due}
use Rattle.wf_model.specs.Core.{CoreState, due_of, has_mail, is_lost, mail_at, setting_at}
use Rattle.wf_model.specs.Replay.{patch_may, is_enabled, state_after_event, if_enabled, replay_from}
use Rattle.wf_model.specs.Offered.{steps_next, takes_next, ends_next, is_offered}
use Rattle.wf_laws.proofs.Bools.{or_left, or_right}
use Rattle.wf_core_laws.proofs.Places.{due_here}
use Rattle.wf_core_laws.proofs.Members.{Has, or_parts}
use Rattle.wf_core_laws.proofs.Sane.{Sane}
use Rattle.wf_core_laws.proofs.Takers.{mail_is}
use Rattle.wf_core_laws.proofs.Kept.{kept, sane, DueHere, due_here_of}
use Rattle.wf_core_laws.proofs.Replays.{keeps_through}
use Rattle.wf_core_laws.proofs.Persists.{Grows, Follows, grows_none, grows_on, grows, other_event, same_due, same_memory, still_sent, still_lost, again}
use Rattle.wf_core_laws.specs.Patches.{IsOfOthers}
use Rattle.wf_patch_laws.specs.Offered.{PositionsOnlyGrow, StaysOffered, OffersStay}

module _ (r : RunData) (layout : Layout) where
  -- a state grows by a list of events
  list_grows : (s : CoreState) (es : List Event) (t : CoreState) → replay_from r layout s es ≡ Some t → Grows s t
  list_grows s es t h = keeps_through r layout (λ u. Grows s u) (λ u e g on. grows_on s u (state_after_event r layout u e) g (grows r layout u e on)) s es t (grows_none s) h

  -- a patch stands as it did through the events of others
  list_same : (s : CoreState) (es : List Event) (t : CoreState) (d p : ℕ) → replay_from r layout s es ≡ Some t → All (IsOfOthers d p) es → t.patches d p ≡ s.patches d p
  unfolding replay_from
  list_same s [] t d p h others = let e : s ≡ t = cc (h) in subst (λ (u : CoreState). u.patches d p ≡ s.patches d p) e refl
  list_same s (x ∷ es) t d p h others =
      (elim (is_enabled r layout s x) as (λ b. and_then (if_enabled b (state_after_event r layout s x)) (λ u. replay_from r layout u es) ≡ Some t → t.patches d p ≡ s.patches d p) [
        | true ↦ λ next. list_same (state_after_event r layout s x) es t d p next (All-tail (IsOfOthers d p) x es others) ∙ other_event r layout s x d p (All-head (IsOfOthers d p) x es others)
        | false ↦ λ none. absurd (cc (none))
      ]) h

  module _ (s t : CoreState) (d p : ℕ) (ok : Sane r layout s) (ok2 : Sane r layout t) (f : Follows s t d p) where
    -- a receiving half with its mail stays so
    takes_on : (k : ℕ) (e : Entry) (h : Half) → due_of r layout s d p ≡ Some (due_here k e h) → Has (patches_of (split_of layout)) p → takes_next r layout s d p (due_here k e h) h ≡ true → takes_next r layout t d p (due_here k e h) h ≡ true
    takes_on k e acts is there on = on
    takes_on k e sends is there on = on
    takes_on k e takes is there on = still_sent r layout s t d p ok ok2 f k e is there on
    takes_on k e (posts levels) is there on = on

    -- so does one that may end
    ends_on : (k : ℕ) (e : Entry) (h : Half) → due_of r layout s d p ≡ Some (due_here k e h) → Has (patches_of (split_of layout)) p → ends_next r layout s d p (due_here k e h) h ≡ true → ends_next r layout t d p (due_here k e h) h ≡ true
    ends_on k e acts is there on = refl
    ends_on k e sends is there on = refl
    ends_on k e takes is there on = elim (or_parts (has_mail r layout s (due_here k e takes) p) (is_lost r layout s (due_here k e takes) p) on) [
      | inl all ↦ or_left _ (is_lost r layout t (due_here k e takes) p) (still_sent r layout s t d p ok ok2 f k e is there all)
      | inr lost ↦ or_right (has_mail r layout t (due_here k e takes) p) _ (still_lost r layout s t d p ok ok2 f k e is there lost)
    ]
    ends_on k e (posts levels) is there on = refl

    -- a half that waits for nothing stays so
    steps_on : (k : ℕ) (e : Entry) (h : Half) → due_of r layout s d p ≡ Some (due_here k e h) → Has (patches_of (split_of layout)) p → steps_next r layout s d p (due_here k e h) h ≡ true → steps_next r layout t d p (due_here k e h) h ≡ true
    steps_on k e acts is there on = refl
    steps_on k e sends is there on = refl
    steps_on k e takes is there on = on
    steps_on k e (posts levels) is there on = refl

    -- the mail of a half that takes
    same_mail : (k : ℕ) (e : Entry) (h : Half) → due_of r layout s d p ≡ Some (due_here k e h) → Has (patches_of (split_of layout)) p → takes_next r layout s d p (due_here k e h) h ≡ true →
        mail_at r layout t (due_here k e h) p ≡ mail_at r layout s (due_here k e h) p
    same_mail k e acts is there on = absurd (cc (on))
    same_mail k e sends is there on = absurd (cc (on))
    same_mail k e takes is there on =
        mail_is r layout t d p k e ok2 (same_due r layout s t d p ok ok2 f ∙ is) there (still_sent r layout s t d p ok ok2 f k e is there on) ∙ sym (mail_is r layout s d p k e ok is there on)
    same_mail k e (posts levels) is there on = absurd (cc (on))

    -- the mail that a claim saw
    claimed_mail : (due : Due) → patch_may r layout (takes_next r layout) s d p ≡ true → due_of r layout s d p ≡ Some due → mail_at r layout t due p ≡ mail_at r layout s due p
    claimed_mail due on is =
        let w : DueHere r layout s d p (takes_next r layout) = due_here_of r layout (takes_next r layout) s d p on in
        let both : Some w.due ≡ Some due = sym w.is ∙ is in
        let same : w.due ≡ due = cc (both) in
        subst (λ (x : Due). mail_at r layout t x p ≡ mail_at r layout s x p) same (same_mail (w.due).place (w.due).entry (w.due).half w.is w.there w.passes)

    -- what a half that waits for nothing sets
    step_sets : (k : ℕ) (e : Entry) (h : Half) → steps_next r layout s d p (due_here k e h) h ≡ true → setting_at r layout t d p (due_here k e h) ≡ setting_at r layout s d p (due_here k e h)
    step_sets k e acts on = ap (λ (m : Memory). computing r (split_of layout) e e.act p m) (same_memory r layout s t d p ok ok2 f)
    step_sets k e sends on = refl
    step_sets k e takes on = absurd (cc (on))
    step_sets k e (posts levels) on = refl

    -- what a receiving half with its mail sets
    take_sets : (k : ℕ) (e : Entry) (h : Half) → due_of r layout s d p ≡ Some (due_here k e h) → Has (patches_of (split_of layout)) p → takes_next r layout s d p (due_here k e h) h ≡ true →
        setting_at r layout t d p (due_here k e h) ≡ setting_at r layout s d p (due_here k e h)
    take_sets k e acts is there on = absurd (cc (on))
    take_sets k e sends is there on = absurd (cc (on))
    take_sets k e takes is there on =
        ap (λ (x : Mail). taking r (split_of layout) e e.act p x (t.patches d p).memory) (same_mail k e takes is there on)
        ∙ ap (λ (m : Memory). taking r (split_of layout) e e.act p (mail_at r layout s (due_here k e takes) p) m) (same_memory r layout s t d p ok ok2 f)
    take_sets k e (posts levels) is there on = absurd (cc (on))

    -- what an offered half sets
    claimed_sets : (due : Due) → (patch_may r layout (steps_next r layout) s d p || patch_may r layout (takes_next r layout) s d p) ≡ true → due_of r layout s d p ≡ Some due → setting_at r layout t d p due ≡ setting_at r layout s d p due
    claimed_sets due on is = elim (or_parts (patch_may r layout (steps_next r layout) s d p) (patch_may r layout (takes_next r layout) s d p) on) [
      | inl step ↦
          let w : DueHere r layout s d p (steps_next r layout) = due_here_of r layout (steps_next r layout) s d p step in
          subst (λ (x : Due). setting_at r layout t d p x ≡ setting_at r layout s d p x) (due_is w.due due (sym w.is ∙ is)) (step_sets (w.due).place (w.due).entry (w.due).half w.passes)
      | inr take ↦
          let w : DueHere r layout s d p (takes_next r layout) = due_here_of r layout (takes_next r layout) s d p take in
          subst (λ (x : Due). setting_at r layout t d p x ≡ setting_at r layout s d p x) (due_is w.due due (sym w.is ∙ is)) (take_sets (w.due).place (w.due).entry (w.due).half w.is w.there w.passes)
    ]
      where
        due_is : (a b : Due) → Some a ≡ Some b → a ≡ b
        due_is a b h = cc (h)

    -- all that stays
    stays : StaysOffered r layout s t d p
    unfolding is_offered
    stays = record {
      same = f.same;
      step = λ on. again r layout s t d p ok ok2 f (steps_next r layout) on steps_on;
      take = λ on. again r layout s t d p ok ok2 f (takes_next r layout) on takes_on;
      stop = λ on. again r layout s t d p ok ok2 f (ends_next r layout) on ends_on;
      sets = claimed_sets;
      mail = claimed_mail;
    }

-- the law on positions
pub only_grow : PositionsOnlyGrow
only_grow r layout s t es d p h = let g : Grows s t = list_grows r layout s es t h in (g.more d p, g.stay d p)

-- the law on offers
pub offers_stay : OffersStay
offers_stay r layout s t es d p reach h others =
    let ok : Sane r layout s = sane r layout reach.0 s reach.1 in
    stays r layout s t d p ok (keeps_through r layout (Sane r layout) (kept r layout) s es t ok h) (record { same = list_same r layout s es t d p h others; grows = list_grows r layout s es t h })
