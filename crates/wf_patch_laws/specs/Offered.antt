-- What comes of offered events, and how long they stay offered.
use Rattle.std.specs.Prelude.{◌≡◌, ℕ, ◌≤◌, ◌==◌, Bool, ◌&&◌, ◌||◌, List, length, All, count_by}
use Rattle.std.specs.Prelude.{IsTrue, IsFalse, Some}
use Rattle.wf_model.specs.declared.layout.Layout.{Layout}
use Rattle.wf_model.specs.declared.event.Event.{Event}
use Rattle.wf_model.specs.declared.event.Event.TheVariants.{Step, Take, Stop}
use Rattle.wf_model.specs.Outcome.{RunData}
use Rattle.wf_model.specs.Patches.{split_of}
use Rattle.wf_model.specs.Exchange.{Letter, senders_to}
use Rattle.wf_model.specs.Halves.{takes, Due}
use Rattle.wf_model.specs.Core.{CoreState, due_of, has_mail, mail_at, setting_at}
use Rattle.wf_model.specs.Replay.{is_enabled, IsEnabled, IsReachable, IsEnd, replay_from}
use Rattle.wf_model.specs.Offered.{is_offered, IsOffered}
use Rattle.wf_core_laws.specs.Patches.{IsDomainPatch, IsOfOthers}

module _ (r : RunData) (layout : Layout) where
  -- a Step, a Take or a Stop of the patch is enabled
  abbrev pub any_enabled : CoreState → ℕ → ℕ → Bool
  any_enabled s d p = is_enabled r layout s (Step d p)
      || (is_enabled r layout s (Take d p) || is_enabled r layout s (Stop d p))

  -- a Step, a Take or a Stop of the patch is offered
  abbrev pub any_offered : CoreState → ℕ → ℕ → Bool
  any_offered s d p = is_offered r layout s (Step d p)
      || (is_offered r layout s (Take d p) || is_offered r layout s (Stop d p))

  -- of the three events of a patch no two are enabled at once
  pub record IsOneAtMost (s : CoreState) (d p : ℕ) : Type 0 where
    pub step_or_take : IsEnabled r layout s (Step d p) → IsEnabled r layout s (Take d p) → ⊥
    pub step_or_stop : IsEnabled r layout s (Step d p) → IsEnabled r layout s (Stop d p) → ⊥
    pub take_or_stop : IsEnabled r layout s (Take d p) → IsEnabled r layout s (Stop d p) → ⊥

  -- what comes of an offer: of a Step a Step or a Stop, and of a Take a Take or a Stop
  pub record ComesOrStops (s : CoreState) (d p : ℕ) : Type 0 where
    pub step : IsOffered r layout s (Step d p) →
        IsTrue (is_enabled r layout s (Step d p) || is_enabled r layout s (Stop d p))
    pub take : IsOffered r layout s (Take d p) →
        IsTrue (is_enabled r layout s (Take d p) || is_enabled r layout s (Stop d p))

-- where an event is enabled it is offered
abbrev pub EnabledEventsAreOffered : Type 0
EnabledEventsAreOffered = (r : RunData) (layout : Layout) (s : CoreState) (e : Event) →
    IsEnabled r layout s e → IsOffered r layout s e

-- an event of a patch is enabled exactly where one is offered
abbrev pub PatchesGoOnWhereOffered : Type 0
PatchesGoOnWhereOffered = (r : RunData) (layout : Layout) (s : CoreState) (d p : ℕ) →
    any_enabled r layout s d p ≡ any_offered r layout s d p

-- and no two of a patch's three are, so exactly one comes
abbrev pub OneOfThreeComes : Type 0
OneOfThreeComes =
    (r : RunData) (layout : Layout) (s : CoreState) (d p : ℕ) → IsOneAtMost r layout s d p

-- an offered Step or Take comes as such, or as a Stop
abbrev pub OffersComeOrStop : Type 0
OffersComeOrStop =
    (r : RunData) (layout : Layout) (s : CoreState) (d p : ℕ) → ComesOrStops r layout s d p

-- no event is offered
abbrev pub OffersNothing : RunData → Layout → CoreState → Type 0
OffersNothing r layout s = (e : Event) → IsFalse (is_offered r layout s e)

-- nothing is enabled exactly where nothing is offered
abbrev pub EndsOfferNothing : Type 0
EndsOfferNothing = (r : RunData) (layout : Layout) (s : CoreState) →
    (IsEnd r layout s → OffersNothing r layout s) × (OffersNothing r layout s → IsEnd r layout s)

-- how many letters to a patch lie in the mail, of a place
abbrev pub letters_to : CoreState → ℕ → ℕ → ℕ
letters_to s place to = count_by (λ (l : Letter). (l.place == place) && (l.to == to)) s.mail

-- all messages to a patch are there exactly where there are as many letters to it, of that place,
-- as patches that send to it
abbrev pub MailIsCounted : Type 0
MailIsCounted =
    (r : RunData) (layout : Layout) (s : CoreState) (d p : ℕ) (due : Due) → IsReachable r layout s →
    IsDomainPatch r.plan layout d p → due_of r layout s d p ≡ Some due → due.half ≡ takes →
    has_mail r layout s due p
    ≡ (letters_to s due.place p == length (senders_to r.plan (split_of layout) due.entry p))

-- ---- what a claim saw

-- no patch goes back, and one that is stopped stays as it is
abbrev pub PositionsOnlyGrow : Type 0
PositionsOnlyGrow =
    (r : RunData) (layout : Layout) (s t : CoreState) (es : List Event) (d p : ℕ) →
    replay_from r layout s es ≡ Some t →
    ((s.patches d p).done ≤ (t.patches d p).done)
    × (IsTrue (s.patches d p).is_stopped → t.patches d p ≡ s.patches d p)

-- through events of others a patch stands as it did, and what was offered to it still is
pub record StaysOffered (r : RunData) (layout : Layout) (s t : CoreState) (d p : ℕ) : Type 0 where
  pub same : t.patches d p ≡ s.patches d p
  pub step : IsOffered r layout s (Step d p) → IsOffered r layout t (Step d p)
  pub take : IsOffered r layout s (Take d p) → IsOffered r layout t (Take d p)
  pub stop : IsOffered r layout s (Stop d p) → IsOffered r layout t (Stop d p)
  -- what the offered half would set stays too, so its work may go on beside other events
  pub sets : (due : Due) →
      IsTrue (is_offered r layout s (Step d p) || is_offered r layout s (Take d p)) →
      due_of r layout s d p ≡ Some due →
      setting_at r layout t d p due ≡ setting_at r layout s d p due
  -- with the same cells and numbers of its messages
  pub mail : (due : Due) → IsOffered r layout s (Take d p) → due_of r layout s d p ≡ Some due →
      mail_at r layout t due p ≡ mail_at r layout s due p

-- what a patch is offered, and the messages that it would take, stay through the events of others
abbrev pub OffersStay : Type 0
OffersStay =
    (r : RunData) (layout : Layout) (s t : CoreState) (es : List Event) (d p : ℕ) →
    IsReachable r layout s → replay_from r layout s es ≡ Some t → All (IsOfOthers d p) es →
    StaysOffered r layout s t d p
