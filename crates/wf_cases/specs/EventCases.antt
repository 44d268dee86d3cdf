-- Worked cases of events: what may come when, and what the memories are at the end.
use Rattle.std.specs.Prelude.{ℕ, ◌≡◌, true, false, Bool, List, [], ◌∷◌, pos, map, is_some, codes}
use Rattle.wf_model.specs.declared.event.Event.{Event}
use Rattle.wf_model.specs.declared.event.Event.TheVariants.{Step, Take, Gather, Write}
use Rattle.wf_model.specs.declared.plan.Item.TheVariants as item
use Rattle.wf_model.specs.Outcome.{RunData}
use Rattle.wf_model.specs.Replay.{replay}
use Rattle.wf_model.specs.Lockstep.{MemoryLine, memory_report}
use Rattle.wf_model.specs.DemoCase.{case_field, case_plan, columns_layout, demo_initial}

-- the demo without its phase: a start frame, a halo, and the frame after the step
abbrev pub run : RunData
run = record {
  plan = case_plan 3 3 1 (case_field (codes "t") (codes "T"))
      (item.Halo (record { field = 0; cross = true; radius = 1 } ∷ []) ∷ []);
  initial = demo_initial 3 3;
  answers = λ id xs. pos 0;
}

-- each event of the list may come when its turn comes, on so many columns of patches
abbrev pub may_come : ℕ → List Event → Bool
may_come columns events = is_some (replay run (columns_layout columns) events)

pub record EventsInOrder : Type 0 where
  pub one_patch : may_come 1 (Step 1 0 ∷ Gather 0 0 0 0 0 ∷ Write 0 ∷ Step 1 0 ∷ Take 1 0 ∷ Step 1 0
      ∷ Gather 0 0 1 0 0 ∷ Write 1 ∷ []) ≡ true
  -- a frame isn't written before its piece is gathered
  pub written_too_early : may_come 1 (Step 1 0 ∷ Write 0 ∷ []) ≡ false
  -- of three patches one runs ahead, and waits for its neighbour's message
  pub runs_ahead : may_come 3
      (Step 1 0 ∷ Step 1 0 ∷ Step 1 1 ∷ Step 1 1 ∷ Take 1 0 ∷ Step 1 0 ∷ []) ≡ true
  pub must_wait : may_come 3 (Step 1 0 ∷ Step 1 0 ∷ Take 1 0 ∷ []) ≡ false

pub record HaloMemories : Type 0 where
  -- 0 37 53 90 6 43, all, and 37 74 90 27 43 80
  pub sums : map (λ (x : MemoryLine). x.sum) (memory_report run (columns_layout 3))
      ≡ pos 229 ∷ pos 410 ∷ pos 351 ∷ []
