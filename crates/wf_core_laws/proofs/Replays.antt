-- What each event keeps holds of each state that a run can reach.
use Rattle.std.proofs.Common.{◌≡◌, true, false, List, [], ◌∷◌, Some, refl, subst}
use Rattle.wf_model.specs.declared.layout.Layout.{Layout}
use Rattle.wf_model.specs.declared.event.Event.{Event}
use Rattle.wf_model.specs.Numbers.{and_then}
use Rattle.wf_model.specs.Outcome.{RunData}
use Rattle.wf_model.specs.Core.{CoreState, begin_state}
use Rattle.wf_model.specs.Replay.{is_enabled, state_after_event, if_enabled, replay_from, replay}

module _ (r : RunData) (layout : Layout) (I : CoreState → Type 0) (keep : (s : CoreState) (e : Event) → I s → is_enabled r layout s e ≡ true → I (state_after_event r layout s e)) where
  -- through a list of events
  pub keeps_through : (s : CoreState) (es : List Event) (t : CoreState) → I s → replay_from r layout s es ≡ Some t → I t
  unfolding replay_from
  keeps_through s [] t ok h = let e : s ≡ t = cc (h) in subst I e ok
  keeps_through s (x ∷ es) t ok h =
      (elim (is_enabled r layout s x) as (λ b. is_enabled r layout s x ≡ b → and_then (if_enabled b (state_after_event r layout s x)) (λ u. replay_from r layout u es) ≡ Some t → I t) [
        | true ↦ λ on go. keeps_through (state_after_event r layout s x) es t (keep s x ok on) go
        | false ↦ λ off none. absurd (cc (none))
      ]) refl h

  -- from the begin
  pub reached : I (begin_state r layout) → (es : List Event) (s : CoreState) → replay r layout es ≡ Some s → I s
  unfolding replay
  reached begin es s h = keeps_through (begin_state r layout) es s begin h
