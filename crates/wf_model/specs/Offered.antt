-- Which events are offered: halves that are due and whose messages are there, whatever comes of
-- them. What a patch does with an offered half, a Step, a Take or a Stop, is known only when its
-- work is done.
use Rattle.std.specs.Prelude.{ℕ, Bool, true, false, ◌||◌, IsTrue}
use Rattle.wf_model.specs.declared.layout.Layout.{Layout}
use Rattle.wf_model.specs.declared.event.Event.{Event}
use Rattle.wf_model.specs.declared.event.Event.TheVariants.{Step, Take, Stop, Gather, Write}
use Rattle.wf_model.specs.Outcome.{RunData}
use Rattle.wf_model.specs.Halves.{Half, acts, sends, takes, posts, Due}
use Rattle.wf_model.specs.Core.{CoreState, has_mail, is_lost}
use Rattle.wf_model.specs.Replay.{patch_may, is_enabled}

module _ (r : RunData) (layout : Layout) where
  -- a half that waits for no message: a phase or a swap, the sending half of an item, and an emit
  abbrev pub steps_next : CoreState → ℕ → ℕ → Due → Half → Bool
  steps_next s d p due acts = true
  steps_next s d p due sends = true
  steps_next s d p due takes = false
  steps_next s d p due (posts levels) = true

  -- a receiving half whose messages are all there
  abbrev pub takes_next : CoreState → ℕ → ℕ → Due → Half → Bool
  takes_next s d p due acts = false
  takes_next s d p due sends = false
  takes_next s d p due takes = has_mail r layout s due p
  takes_next s d p due (posts levels) = false

  -- either of these, or a receiving half of which a message is lost: it is of a patch that stopped
  -- without posting it
  abbrev pub ends_next : CoreState → ℕ → ℕ → Due → Half → Bool
  ends_next s d p due acts = true
  ends_next s d p due sends = true
  ends_next s d p due takes = has_mail r layout s due p || is_lost r layout s due p
  ends_next s d p due (posts levels) = true

  -- the event is offered. A Gather and a Write are where they are enabled
  unfoldable pub is_offered : CoreState → Event → Bool
  is_offered s (Step d p) = patch_may r layout steps_next s d p
  is_offered s (Take d p) = patch_may r layout takes_next s d p
  is_offered s (Stop d p) = patch_may r layout ends_next s d p
  is_offered s (Gather group server frame f p) =
      is_enabled r layout s (Gather group server frame f p)
  is_offered s (Write frame) = is_enabled r layout s (Write frame)

  -- the event is offered, as a fact
  abbrev pub IsOffered : CoreState → Event → Type 0
  IsOffered s e = IsTrue (is_offered s e)
