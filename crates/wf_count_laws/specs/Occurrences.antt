-- How often each item of a domain comes in the script, and how large the sums can be.
use Rattle.std.specs.Prelude.{◌≡◌, ℕ, ◌+◌, ◌*◌, ◌≤◌, ◌==◌, Bool, true, false, ◌&&◌, ◌||◌, nat_lt}
use Rattle.std.specs.Prelude.{length, count_by, if◌then◌else◌, slice_index}
use Rattle.wf_model.specs.declared.plan.Plan.{Plan}
use Rattle.wf_model.specs.declared.script.Act.{Act}
use Rattle.wf_model.specs.declared.script.Act.TheVariants.{Start, Force, Feedback, Table, Emit}
use Rattle.wf_model.specs.declared.script.Entry.{Entry}
use Rattle.wf_model.specs.Plans.{domain_of}
use Rattle.wf_model.specs.Script.{restart_stream}
use Rattle.wf_model.specs.Streams.{one_if}
use Rattle.wf_model.specs.Counts.{fresh_script, own_steps, due_steps}
use Rattle.wf_model.specs.Sound.{IsDomain}
use Rattle.wf_model.specs.Weights.{Weights, begins_at, run_seconds, parent_steps, restart_count}
use Rattle.wf_model.specs.Weights.{domain_weight, HasDomainsInTime}

abbrev pub is_act : Act → Act → Bool
is_act Start Start = true
is_act Force Force = true
is_act Feedback Feedback = true
is_act (Table m) (Table n) = m == n
is_act (Emit s) (Emit t) = s == t
is_act a b = false

-- how often a domain's item comes in the script
abbrev pub occurrences : Plan → ℕ → Act → ℕ
occurrences plan d act =
    count_by (λ (e : Entry). (e.domain == d) && is_act e.act act) (fresh_script plan)

-- a domain that begins within the run
abbrev pub begins_within : Plan → ℕ → Bool
begins_within plan d = nat_lt (begins_at plan d) (run_seconds plan)

-- the frames of a stream: one at the domain's start where the stream is used, and one after each
-- step that is due
abbrev pub frames_of_stream : Plan → ℕ → ℕ → ℕ
frames_of_stream plan d s =
    (if (d == 1) || begins_within plan d
    then one_if (nat_lt 0 (slice_index (domain_of plan d).intervals s))
    else 0)
    + due_steps (slice_index (domain_of plan d).intervals s) (own_steps plan d)

-- a nest starts once, if it begins within the run; it is forced once with each step of its parent's
-- from then on, and feeds back as often;
-- a domain does each item of the table once with each step of its own
abbrev pub act_count : Plan → ℕ → Act → ℕ
act_count plan d Start = if d == 1 then 0 else one_if (begins_within plan d)
act_count plan d Force = if d == 1 then 0 else parent_steps plan d
act_count plan d Feedback = if d == 1 then 0 else (if plan.feedback then parent_steps plan d else 0)
act_count plan d (Table n) = if nat_lt n (length plan.items) then own_steps plan d else 0
act_count plan d (Emit s) =
    if s == restart_stream
    then restart_count plan d
    else (if nat_lt s 10 then frames_of_stream plan d s else 0)

-- each item of a domain comes so often
abbrev pub ItemsComeSoOften : Type 0
ItemsComeSoOften =
    (plan : Plan) (d : ℕ) (act : Act) → HasDomainsInTime plan → IsDomain plan d →
    occurrences plan d act ≡ act_count plan d act

-- ---- how large they are

-- where no item of a domain weighs more than so much, the domain weighs at most this: it has no
-- more steps, and no more due steps, than the run has seconds
abbrev pub most_weight : Plan → ℕ → ℕ
most_weight plan most = (run_seconds plan * (length plan.items + 13) + 11) * most

abbrev pub WeightsAreBounded : Type 0
WeightsAreBounded =
    (plan : Plan) (w : Weights) (d most : ℕ) → HasDomainsInTime plan → IsDomain plan d →
    ((act : Act) → w d act ≤ most) → domain_weight plan w d ≤ most_weight plan most
