-- Sums over the script by its domains, without making it: each item weighs by its domain and its
-- act.
use Rattle.std.specs.Prelude.{◌≡◌, ℕ, ◌+◌, ◌-◌, ◌*◌, ◌/◌, ◌%◌, ◌==◌, ◌<◌, ◌≤◌, nat_lt, length}
use Rattle.std.specs.Prelude.{sum_by, if◌then◌else◌, slice_index}
use Rattle.std.specs.List.{range_with_len}
use Rattle.wf_model.specs.declared.plan.Plan.{Plan}
use Rattle.wf_model.specs.declared.script.Act.{Act}
use Rattle.wf_model.specs.declared.script.Act.TheVariants.{Start, Force, Feedback, Table, Emit}
use Rattle.wf_model.specs.declared.script.Entry.{Entry}
use Rattle.wf_model.specs.Plans.{domain_of, domains_of}
use Rattle.wf_model.specs.Script.{not_before, restart_stream}
use Rattle.wf_model.specs.Counts.{fresh_script, own_steps, due_steps}
use Rattle.wf_model.specs.Sound.{IsDomain}

-- what an item of a domain weighs, by its act
abbrev pub Weights : Type 0
Weights = ℕ → Act → ℕ

-- what the whole script weighs, where no domain resumes
abbrev pub script_weight : Plan → Weights → ℕ
script_weight plan w = sum_by (λ (e : Entry). w e.domain e.act) (fresh_script plan)

-- ---- times

-- when a domain begins, in seconds from domain 1's start
abbrev pub begins_at : Plan → ℕ → ℕ
begins_at plan d = not_before (domain_of plan d).begins

-- the seconds of a step of the domain's parent
abbrev pub parent_seconds : Plan → ℕ → ℕ
parent_seconds plan c = (domain_of plan (domain_of plan c).parent).seconds

-- when the run ends
abbrev pub run_seconds : Plan → ℕ
run_seconds plan = plan.steps * (domain_of plan 1).seconds

-- the steps of its parent from a nest's begin to the run's end
abbrev pub parent_steps : Plan → ℕ → ℕ
parent_steps plan c = (run_seconds plan - begins_at plan c) / parent_seconds plan c

-- the restart frames of a domain: of domain 1's due steps those that end after the domain's begin
abbrev pub restart_count : Plan → ℕ → ℕ
restart_count plan d = due_steps plan.restart_steps plan.steps
    - due_steps plan.restart_steps (begins_at plan d / (domain_of plan 1).seconds)

-- ---- weights of parts

-- of all items of the table, once
abbrev pub table_weight : Plan → Weights → ℕ → ℕ
table_weight plan w d = sum_by (λ n. w d (Table n)) (range_with_len 0 (length plan.items))

-- of a frame of each stream that is used
abbrev pub start_frames_weight : Plan → Weights → ℕ → ℕ
start_frames_weight plan w d = sum_by (λ s. if nat_lt 0 (slice_index (domain_of plan d).intervals s)
    then w d (Emit s) else 0) (range_with_len 0 10)

-- of the frames that are due in so many steps
abbrev pub due_frames_weight : Plan → Weights → ℕ → ℕ → ℕ
due_frames_weight plan w d steps =
    sum_by (λ s. due_steps (slice_index (domain_of plan d).intervals s) steps * w d (Emit s))
    (range_with_len 0 10)

-- of so many steps of a domain, but for what its nests do in them
abbrev pub steps_weight : Plan → Weights → ℕ → ℕ → ℕ
steps_weight plan w d steps = steps * table_weight plan w d + due_frames_weight plan w d steps

-- of a nest's start
abbrev pub start_weight : Plan → Weights → ℕ → ℕ
start_weight plan w c = w c Start + start_frames_weight plan w c

-- of what comes of a nest with each step of its parent: it is forced, and may feed back
abbrev pub nesting_weight : Plan → Weights → ℕ → ℕ
nesting_weight plan w c = w c Force + (if plan.feedback then w c Feedback else 0)

-- of a nest's start, where it comes before the run's end, and of its forces and feedbacks
abbrev pub nest_weight : Plan → Weights → ℕ → ℕ
nest_weight plan w c =
    (if nat_lt (begins_at plan c) (run_seconds plan) then start_weight plan w c else 0)
    + parent_steps plan c * nesting_weight plan w c

-- ---- the closed form

-- of all items of a domain: of its steps, of its restart frames, and of its start
unfoldable pub domain_weight : Plan → Weights → ℕ → ℕ
domain_weight plan w d =
    steps_weight plan w d (own_steps plan d)
    + restart_count plan d * w d (Emit restart_stream)
    + (if d == 1 then start_frames_weight plan w 1 else nest_weight plan w d)

-- of all domains
abbrev pub weight_by_domains : Plan → Weights → ℕ
weight_by_domains plan w = sum_by (domain_weight plan w) (domains_of plan)

-- ---- what a plan keeps of its domains' times

-- a nest's steps fill those of a domain before it, and it begins with a step of it and not before
-- it
pub record IsNestInTime (plan : Plan) (c : ℕ) : Type 0 where
  pub parent : IsDomain plan (domain_of plan c).parent
  pub before : (domain_of plan c).parent < c
  pub seconds : (domain_of plan c).seconds * (domain_of plan c).time_ratio ≡ parent_seconds plan c
  pub whole : begins_at plan c % parent_seconds plan c ≡ 0
  pub after_parent : begins_at plan (domain_of plan c).parent ≤ begins_at plan c

pub record HasDomainsInTime (plan : Plan) : Type 0 where
  pub some : 1 ≤ length plan.domains
  pub first : begins_at plan 1 ≡ 0
  pub steps : (d : ℕ) → IsDomain plan d → 1 ≤ (domain_of plan d).seconds
  pub nests : (c : ℕ) → 1 < c → IsDomain plan c → IsNestInTime plan c
