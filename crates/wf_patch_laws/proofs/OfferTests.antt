-- The tests of offered and of enabled events, half by half.
use Rattle.std.proofs.Common.{◌≡◌, inl, inr, ℕ, ◌&&◌, ◌||◌, Bool, true, false, not, Option, Some, None, refl, sym, ◌∙◌}
use Rattle.std.specs.Prelude.{is_some}
use Rattle.wf_model.specs.declared.layout.Layout.{Layout}
use Rattle.wf_model.specs.declared.event.Event.TheVariants.{Step, Take, Stop, Gather, Write}
use Rattle.wf_model.specs.Outcome.{RunData}
use Rattle.wf_model.specs.Patches.{split_of}
use Rattle.wf_model.specs.Exchange.{senders_to}
use Rattle.wf_model.specs.Halves.{Half, acts, sends, takes, posts, Due}
use Rattle.wf_model.specs.Core.{CoreState, due_of, letter_of, has_mail, is_lost}
use Rattle.wf_model.specs.Replay.{is_there, goes, may_step, may_take, may_stop, due_test, is_enabled, IsEnd}
use Rattle.wf_model.specs.Offered.{steps_next, takes_next, ends_next, is_offered}
use Rattle.wf_laws.proofs.Bools.{and_left, and_right}
use Rattle.wf_core_laws.proofs.Options.{some_and_none}
use Rattle.wf_core_laws.proofs.Members.{or_parts, all-at, any-found}
use Rattle.wf_patch_laws.specs.Offered.{OffersNothing, EndsOfferNothing, EnabledEventsAreOffered, PatchesGoOnWhereOffered, OneOfThreeComes, OffersComeOrStop}

-- a test and its denial
one_or_other : (g : Bool) → (g || (false || not g)) ≡ true
one_or_other true = refl
one_or_other false = refl

-- the tests of a receiving half
mail_or_stop : (m g l : Bool) → (false || ((m && g) || ((m && not g) || l))) ≡ (false || (m || (m || l)))
mail_or_stop true true l = refl
mail_or_stop true false l = refl
mail_or_stop false g l = refl

-- what a patch that is there and goes on tests three times
three : (a b x y z u v w : Bool) → (x || (y || z)) ≡ (u || (v || w)) → ((a && (b && x)) || ((a && (b && y)) || (a && (b && z)))) ≡ ((a && (b && u)) || ((a && (b && v)) || (a && (b && w))))
three true true x y z u v w h = h
three true false x y z u v w h = refl
three false b x y z u v w h = refl

-- and twice
two : (a b x y z : Bool) → (x ≡ true → (y || z) ≡ true) → (a && (b && x)) ≡ true → ((a && (b && y)) || (a && (b && z))) ≡ true
two true true x y z h k = h k
two true false x y z h k = absurd (cc (k))
two false b x y z h k = absurd (cc (k))

-- a weaker test passes too
weaker : (a b x y : Bool) → (x ≡ true → y ≡ true) → (a && (b && x)) ≡ true → (a && (b && y)) ≡ true
weaker true true x y h k = h k
weaker true false x y h k = absurd (cc (k))
weaker false b x y h k = absurd (cc (k))

-- two tests that do not both pass
apart : (a b x y : Bool) → (x ≡ true → y ≡ true → ⊥) → (a && (b && x)) ≡ true → (a && (b && y)) ≡ true → ⊥
apart true true x y h k l = h k l
apart true false x y h k l = absurd (cc (k))
apart false b x y h k l = absurd (cc (k))

-- a test does not hold together with its denial
true_and_not : (b : Bool) → b ≡ true → not b ≡ true → ⊥
true_and_not true h k = cc (k)
true_and_not false h k = cc (h)

-- either of two tests, where the third is either of two
mail_ends : (m g l : Bool) → ((m && not g) || l) ≡ true → (m || l) ≡ true
mail_ends true g l h = refl
mail_ends false g l h = h

-- a receiving half with its mail
mail_comes : (m g l : Bool) → m ≡ true → ((m && g) || ((m && not g) || l)) ≡ true
mail_comes true true l h = refl
mail_comes true false l h = refl
mail_comes false g l h = absurd (cc (h))

module _ (r : RunData) (layout : Layout) where
  -- of a half one of three comes where one of three is offered
  half_same : (s : CoreState) (d p : ℕ) (due : Due) (h : Half) →
      (may_step r layout s d p due h || (may_take r layout s d p due h || may_stop r layout s d p due h)) ≡ (steps_next r layout s d p due h || (takes_next r layout s d p due h || ends_next r layout s d p due h))
  half_same s d p due acts = one_or_other (goes r layout s d p due)
  half_same s d p due sends = refl
  half_same s d p due takes = mail_or_stop (has_mail r layout s due p) (goes r layout s d p due) (is_lost r layout s due p)
  half_same s d p due (posts levels) = refl

  -- and so of what is due
  due_same : (s : CoreState) (d p : ℕ) (o : Option Due) →
      (due_test (may_step r layout) s d p o || (due_test (may_take r layout) s d p o || due_test (may_stop r layout) s d p o))
      ≡ (due_test (steps_next r layout) s d p o || (due_test (takes_next r layout) s d p o || due_test (ends_next r layout) s d p o))
  due_same s d p None = refl
  due_same s d p (Some due) = half_same s d p due due.half

  -- a half that may step is offered so
  step_offered : (s : CoreState) (d p : ℕ) (o : Option Due) → due_test (may_step r layout) s d p o ≡ true → due_test (steps_next r layout) s d p o ≡ true
  step_offered s d p None h = h
  step_offered s d p (Some due) h = by due.half h
    where
      by : (x : Half) → may_step r layout s d p due x ≡ true → steps_next r layout s d p due x ≡ true
      by acts h = refl
      by sends h = refl
      by takes h = h
      by (posts levels) h = refl

  -- one that may take
  take_offered : (s : CoreState) (d p : ℕ) (o : Option Due) → due_test (may_take r layout) s d p o ≡ true → due_test (takes_next r layout) s d p o ≡ true
  take_offered s d p None h = h
  take_offered s d p (Some due) h = by due.half h
    where
      by : (x : Half) → may_take r layout s d p due x ≡ true → takes_next r layout s d p due x ≡ true
      by acts h = h
      by sends h = h
      by takes h = and_left (has_mail r layout s due p) (goes r layout s d p due) h
      by (posts levels) h = h

  -- one that may stop
  stop_offered : (s : CoreState) (d p : ℕ) (o : Option Due) → due_test (may_stop r layout) s d p o ≡ true → due_test (ends_next r layout) s d p o ≡ true
  stop_offered s d p None h = h
  stop_offered s d p (Some due) h = by due.half h
    where
      by : (x : Half) → may_stop r layout s d p due x ≡ true → ends_next r layout s d p due x ≡ true
      by acts h = refl
      by sends h = absurd (cc (h))
      by takes h = mail_ends (has_mail r layout s due p) (goes r layout s d p due) (is_lost r layout s due p) h
      by (posts levels) h = absurd (cc (h))

  -- an offered step comes or stops
  step_comes : (s : CoreState) (d p : ℕ) (o : Option Due) → due_test (steps_next r layout) s d p o ≡ true → (due_test (may_step r layout) s d p o || due_test (may_stop r layout) s d p o) ≡ true
  step_comes s d p None h = h
  step_comes s d p (Some due) h = by due.half h
    where
      either : (g : Bool) → (g || not g) ≡ true
      either true = refl
      either false = refl

      by : (x : Half) → steps_next r layout s d p due x ≡ true → (may_step r layout s d p due x || may_stop r layout s d p due x) ≡ true
      by acts h = either (goes r layout s d p due)
      by sends h = refl
      by takes h = absurd (cc (h))
      by (posts levels) h = refl

  -- an offered take comes or stops
  take_comes : (s : CoreState) (d p : ℕ) (o : Option Due) → due_test (takes_next r layout) s d p o ≡ true → (due_test (may_take r layout) s d p o || due_test (may_stop r layout) s d p o) ≡ true
  take_comes s d p None h = h
  take_comes s d p (Some due) h = by due.half h
    where
      by : (x : Half) → takes_next r layout s d p due x ≡ true → (may_take r layout s d p due x || may_stop r layout s d p due x) ≡ true
      by acts h = absurd (cc (h))
      by sends h = absurd (cc (h))
      by takes h = mail_comes (has_mail r layout s due p) (goes r layout s d p due) (is_lost r layout s due p) h
      by (posts levels) h = absurd (cc (h))

  -- all mail is there, or some is lost
  mail_or_lost : (s : CoreState) (due : Due) (p : ℕ) → has_mail r layout s due p ≡ true → is_lost r layout s due p ≡ true → ⊥
  mail_or_lost s due p all lost =
      let g = any-found _ (senders_to r.plan (split_of layout) due.entry p) lost in
      some_and_none (letter_of s due.place g.q p) (all-at (λ q. is_some (letter_of s due.place q p)) (senders_to r.plan (split_of layout) due.entry p) g.q all g.is) (and_left _ _ g.passes)

  -- no half both steps and takes
  step_or_take : (s : CoreState) (d p : ℕ) (o : Option Due) → due_test (may_step r layout) s d p o ≡ true → due_test (may_take r layout) s d p o ≡ true → ⊥
  step_or_take s d p None h k = cc (h)
  step_or_take s d p (Some due) h k = by due.half h k
    where
      by : (x : Half) → may_step r layout s d p due x ≡ true → may_take r layout s d p due x ≡ true → ⊥
      by acts h k = cc (k)
      by sends h k = cc (k)
      by takes h k = cc (h)
      by (posts levels) h k = cc (k)

  -- nor steps and stops
  step_or_stop : (s : CoreState) (d p : ℕ) (o : Option Due) → due_test (may_step r layout) s d p o ≡ true → due_test (may_stop r layout) s d p o ≡ true → ⊥
  step_or_stop s d p None h k = cc (h)
  step_or_stop s d p (Some due) h k = by due.half h k
    where
      by : (x : Half) → may_step r layout s d p due x ≡ true → may_stop r layout s d p due x ≡ true → ⊥
      by acts h k = true_and_not (goes r layout s d p due) h k
      by sends h k = cc (k)
      by takes h k = cc (h)
      by (posts levels) h k = cc (k)

  -- nor takes and stops
  take_or_stop : (s : CoreState) (d p : ℕ) (o : Option Due) → due_test (may_take r layout) s d p o ≡ true → due_test (may_stop r layout) s d p o ≡ true → ⊥
  take_or_stop s d p None h k = cc (h)
  take_or_stop s d p (Some due) h k = by due.half h k
    where
      by : (x : Half) → may_take r layout s d p due x ≡ true → may_stop r layout s d p due x ≡ true → ⊥
      by acts h k = cc (h)
      by sends h k = cc (h)
      by takes h k =
          elim (or_parts (has_mail r layout s due p && not (goes r layout s d p due)) (is_lost r layout s due p) k) [
            | inl both ↦ true_and_not (goes r layout s d p due) (and_right (has_mail r layout s due p) _ h) (and_right (has_mail r layout s due p) _ both)
            | inr lost ↦ mail_or_lost s due p (and_left _ (goes r layout s d p due) h) lost
          ]
      by (posts levels) h k = cc (h)

-- the law on enabled events
pub enabled_offered : EnabledEventsAreOffered
unfolding is_enabled is_offered
enabled_offered r layout s (Step d p) h = weaker (is_there r layout d p) (not (s.patches d p).is_stopped) _ _ (step_offered r layout s d p (due_of r layout s d p)) h
enabled_offered r layout s (Take d p) h = weaker (is_there r layout d p) (not (s.patches d p).is_stopped) _ _ (take_offered r layout s d p (due_of r layout s d p)) h
enabled_offered r layout s (Stop d p) h = weaker (is_there r layout d p) (not (s.patches d p).is_stopped) _ _ (stop_offered r layout s d p (due_of r layout s d p)) h
enabled_offered r layout s (Gather group server frame f p) h = h
enabled_offered r layout s (Write n) h = h

-- the law on the three of a patch
pub any_same : PatchesGoOnWhereOffered
unfolding is_enabled is_offered
any_same r layout s d p = three (is_there r layout d p) (not (s.patches d p).is_stopped) _ _ _ _ _ _ (due_same r layout s d p (due_of r layout s d p))

-- the law on no two
pub one_at_most : OneOfThreeComes
unfolding is_enabled
one_at_most r layout s d p = record {
  step_or_take = apart (is_there r layout d p) (not (s.patches d p).is_stopped) _ _ (step_or_take r layout s d p (due_of r layout s d p));
  step_or_stop = apart (is_there r layout d p) (not (s.patches d p).is_stopped) _ _ (step_or_stop r layout s d p (due_of r layout s d p));
  take_or_stop = apart (is_there r layout d p) (not (s.patches d p).is_stopped) _ _ (take_or_stop r layout s d p (due_of r layout s d p));
}

-- the law on what comes
pub comes_or_stops : OffersComeOrStop
unfolding is_enabled is_offered
comes_or_stops r layout s d p = record {
  step = two (is_there r layout d p) (not (s.patches d p).is_stopped) _ _ _ (step_comes r layout s d p (due_of r layout s d p));
  take = two (is_there r layout d p) (not (s.patches d p).is_stopped) _ _ _ (take_comes r layout s d p (due_of r layout s d p));
}

-- none of three where none of three others
none_first : (a b c x y z : Bool) → (a || (b || c)) ≡ (x || (y || z)) → a ≡ false → b ≡ false → c ≡ false → (x ≡ false) × (y ≡ false) × (z ≡ false)
none_first a b c true y z same p q t = absurd (cc (sym same ∙ (λ n. p n || (q n || t n))))
none_first a b c false true z same p q t = absurd (cc (sym same ∙ (λ n. p n || (q n || t n))))
none_first a b c false false true same p q t = absurd (cc (sym same ∙ (λ n. p n || (q n || t n))))
none_first a b c false false false same p q t = (refl, refl, refl)

-- a test that would not hold
not_so : (a b : Bool) → (a ≡ true → b ≡ true) → b ≡ false → a ≡ false
not_so true b h f = absurd (cc (sym (h refl) ∙ f))
not_so false b h f = refl

-- where nothing is enabled none of a patch's three is offered
module _ (r : RunData) (layout : Layout) (s : CoreState) (end : IsEnd r layout s) (d p : ℕ) where
  patch_end : (is_offered r layout s (Step d p) ≡ false) × (is_offered r layout s (Take d p) ≡ false) × (is_offered r layout s (Stop d p) ≡ false)
  patch_end =
      none_first (is_enabled r layout s (Step d p)) (is_enabled r layout s (Take d p)) (is_enabled r layout s (Stop d p))
      (is_offered r layout s (Step d p)) (is_offered r layout s (Take d p)) (is_offered r layout s (Stop d p))
      (any_same r layout s d p) (end (Step d p)) (end (Take d p)) (end (Stop d p))

-- nor any other event
end_offers : (r : RunData) (layout : Layout) (s : CoreState) → IsEnd r layout s → OffersNothing r layout s
unfolding is_offered
end_offers r layout s end (Step d p) = (patch_end r layout s end d p).0
end_offers r layout s end (Take d p) = (patch_end r layout s end d p).1
end_offers r layout s end (Stop d p) = (patch_end r layout s end d p).2
end_offers r layout s end (Gather group server frame f p) = end (Gather group server frame f p)
end_offers r layout s end (Write n) = end (Write n)

-- the law on ends
pub ends_offer : EndsOfferNothing
ends_offer r layout s = (end_offers r layout s, λ none e. not_so (is_enabled r layout s e) (is_offered r layout s e) (enabled_offered r layout s e) (none e))
