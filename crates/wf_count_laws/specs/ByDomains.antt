-- Items, frames and events of a run in which no domain resumes, as numbers of steps and frames of
-- each domain.
use Rattle.std.specs.Prelude.{◌≡◌, ℕ, ◌+◌, ◌*◌, ◌==◌, length, sum_by, if◌then◌else◌}
use Rattle.std.specs.List.{range_with_len}
use Rattle.wf_model.specs.declared.plan.Plan.{Plan}
use Rattle.wf_model.specs.Plans.{domains_of, item_of}
use Rattle.wf_model.specs.Script.{restart_stream}
use Rattle.wf_model.specs.Streams.{one_if}
use Rattle.wf_model.specs.Patches.{Split}
use Rattle.wf_model.specs.Halves.{item_halves}
use Rattle.wf_model.specs.Frames.{frames_of}
use Rattle.wf_model.specs.Counts.{own_steps, fresh_run, more_restarts, more_events, script_items}
use Rattle.wf_model.specs.Counts.{all_events}
use Rattle.wf_model.specs.Weights.{parent_steps, restart_count, HasDomainsInTime}
use Rattle.wf_count_laws.specs.Occurrences.{begins_within, frames_of_stream}

-- a nest's start, forces and feedbacks
abbrev pub nest_items : Plan → ℕ → ℕ
nest_items plan d =
    if d == 1
    then 0
    else one_if (begins_within plan d) + parent_steps plan d * (if plan.feedback then 2 else 1)

-- the frames of a domain: of its ten streams, and of the stream of restart files
abbrev pub domain_frames : Plan → ℕ → ℕ
domain_frames plan d = sum_by (frames_of_stream plan d) (range_with_len 0 10) + restart_count plan d

-- the items of a domain
abbrev pub domain_items : Plan → ℕ → ℕ
domain_items plan d =
    own_steps plan d * length plan.items + domain_frames plan d + nest_items plan d

-- the halves of all items of the table
abbrev pub table_halves : Plan → ℕ
table_halves plan =
    sum_by (λ n. length (item_halves (item_of plan n))) (range_with_len 0 (length plan.items))

-- the events of a domain's items
abbrev pub domain_events : Plan → ℕ → ℕ → ℕ
domain_events plan patches d =
    own_steps plan d * (table_halves plan * patches)
    + sum_by (λ s. frames_of_stream plan d s * more_events plan patches s) (range_with_len 0 10)
    + restart_count plan d * more_events plan patches restart_stream
    + nest_items plan d * (2 * patches)

-- ---- laws

abbrev pub ItemsAreThoseOfDomains : Type 0
ItemsAreThoseOfDomains =
    (plan : Plan) → HasDomainsInTime plan →
    script_items plan ≡ sum_by (domain_items plan) (domains_of plan) + more_restarts plan

abbrev pub FramesAreThoseOfDomains : Type 0
FramesAreThoseOfDomains =
    (plan : Plan) → HasDomainsInTime plan →
    length (frames_of (fresh_run plan)) ≡ sum_by (domain_frames plan) (domains_of plan)

abbrev pub EventsAreThoseOfDomains : Type 0
EventsAreThoseOfDomains =
    (plan : Plan) (split : Split) → HasDomainsInTime plan →
    all_events plan split
    ≡ sum_by (domain_events plan (split.in_x * split.in_y)) (domains_of plan)
    + more_restarts plan * more_events plan (split.in_x * split.in_y) restart_stream
