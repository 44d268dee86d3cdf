-- Items, frames and events of a run in which no domain resumes, by domains.
use Rattle.std.specs.Prelude.{◌≡◌, ℕ, ◌+◌, ◌*◌, length}
use Rattle.wf_model.specs.declared.plan.Plan.{Plan}
use Rattle.wf_model.specs.declared.script.Act.TheVariants.{Start, Force, Feedback, Table, Emit}
use Rattle.wf_model.specs.Plans.{item_of}
use Rattle.wf_model.specs.Script.{restart_stream}
use Rattle.wf_model.specs.Patches.{Split}
use Rattle.wf_model.specs.Halves.{item_halves}
use Rattle.wf_model.specs.Frames.{frames_of}
use Rattle.wf_model.specs.Counts.{fresh_run, more_restarts, more_events, script_items, all_events}
use Rattle.wf_model.specs.Weights.{Weights, weight_by_domains, HasDomainsInTime}

-- ---- items

abbrev pub one_each : Weights
one_each d act = 1

abbrev pub ItemsAreCounted : Type 0
ItemsAreCounted =
    (plan : Plan) → HasDomainsInTime plan →
    script_items plan ≡ weight_by_domains plan one_each + more_restarts plan

-- ---- frames

-- each emit has one
abbrev pub frame_weight : Weights
frame_weight d Start = 0
frame_weight d Force = 0
frame_weight d Feedback = 0
frame_weight d (Table n) = 0
frame_weight d (Emit s) = 1

abbrev pub FramesAreCounted : Type 0
FramesAreCounted =
    (plan : Plan) → HasDomainsInTime plan →
    length (frames_of (fresh_run plan)) ≡ weight_by_domains plan frame_weight

-- ---- events

-- of so many patches: in a nest item each patch of one domain sends and each of the other takes; an
-- item of the table has its halves; an emit's pieces are
-- posted and gathered, and its frame is written
abbrev pub event_weight : Plan → ℕ → Weights
event_weight plan patches d Start = 2 * patches
event_weight plan patches d Force = 2 * patches
event_weight plan patches d Feedback = 2 * patches
event_weight plan patches d (Table n) = length (item_halves (item_of plan n)) * patches
event_weight plan patches d (Emit s) = more_events plan patches s

abbrev pub EventsAreCounted : Type 0
EventsAreCounted =
    (plan : Plan) (split : Split) → HasDomainsInTime plan →
    all_events plan split
    ≡ weight_by_domains plan (event_weight plan (split.in_x * split.in_y))
    + more_restarts plan * more_events plan (split.in_x * split.in_y) restart_stream
