-- A time at which a run wrote restart files, and the run that goes on from these files.
use Rattle.std.specs.Prelude.{◌≡◌, ℕ, ◌+◌, ◌-◌, ◌*◌, ◌≤◌, Bool, true, false, ◌||◌, nat_lt, List, []}
use Rattle.std.specs.Prelude.{◌++◌, length, map, flat_map, pos, ◌+ℤ◌, ◌≤ℤ◌, ℤ, None, IsTrue}
use Rattle.std.specs.Prelude.{IsFalse, slice_index_or, if◌then◌else◌}
use Rattle.std.specs.List.{range_with_len}
use Rattle.wf_model.specs.declared.plan.Domain.{Domain}
use Rattle.wf_model.specs.declared.plan.Plan.{Plan}
use Rattle.wf_model.specs.declared.initial.Begin.{Begin}
use Rattle.wf_model.specs.declared.initial.Initial.{Initial}
use Rattle.wf_model.specs.declared.script.Entry.{Entry}
use Rattle.wf_model.specs.Plans.{domain_of, begin_of, domains_of, levels_of}
use Rattle.wf_model.specs.Grids.{level_list}
use Rattle.wf_model.specs.Calendar.{time_text}
use Rattle.wf_model.specs.Script.{is_due, begin_time, steps_by, start_frames, step_of}
use Rattle.wf_model.specs.Outcome.{RunData, grids_at, outcome_of, no_lists}
use Rattle.wf_model.specs.Held.{stands_past}
use Rattle.wf_model.specs.Sound.{IsDomain}
use Rattle.wf_model.specs.InputOf.{is_restored, zeros}
use Rattle.wf_model.specs.Uncovered.{first_lost}

-- ---- a restart time

-- the seconds from a run's start to the end of the m-th step of domain 1
abbrev pub time_after : RunData → ℕ → ℕ
time_after r m = m * (domain_of r.plan 1).seconds

-- the script up to the end of the m-th step of domain 1, with the restart frames of this time
unfoldable pub first_steps : RunData → ℕ → List Entry
first_steps r m =
    (if (begin_of r.initial.begins 1).resumed then [] else start_frames r.plan r.initial.begins 1 0)
    ++ flat_map (λ n. step_of r.plan r.initial.begins (length r.plan.domains) 1
    (n * (domain_of r.plan 1).seconds)) (range_with_len 0 m)

-- the place of the item that follows
abbrev pub place_after : RunData → ℕ → ℕ
place_after r m = length (first_steps r m)

-- a domain that has a restart frame at this time: it resumed, or it started before
abbrev pub goes_on : RunData → ℕ → ℕ → Bool
goes_on r m d = (begin_of r.initial.begins d).resumed
    || nat_lt (begin_time r.plan r.initial.begins d) (time_after r m)

-- the steps that a domain has behind it then
abbrev pub steps_after : RunData → ℕ → ℕ → ℕ
steps_after r m d = steps_by r.plan r.initial.begins d (time_after r m)

-- after m steps of domain 1 restart files are due, and the run wrote them: no item up to there
-- overflows. Each tells its domain's steps whole
pub record IsRestartTime (r : RunData) (m : ℕ) : Type 0 where
  pub some : 1 ≤ m
  pub within : m ≤ r.plan.steps
  pub due : IsTrue (is_due r.plan.restart_steps (steps_after r m 1))
  pub reached : IsFalse (stands_past (place_after r m) (outcome_of r))
  pub counted : (d : ℕ) → IsDomain r.plan d → steps_after r m d ≤ 1000000000

-- restart files hold each level that is live
abbrev pub HoldsLiveLevels : Plan → Type 0
HoldsLiveLevels plan = first_lost plan ≡ None

-- ---- the run that goes on

-- the same but for when it starts, and for how many frames its files take
abbrev pub IsSameDomain : Domain → Domain → Type 0
IsSameDomain x y = y ≡ record x { begins = y.begins; frames = y.frames }

-- the plan that goes on: it starts at the restart time and ends when the other ends. A domain with
-- a restart frame starts then or before, and each other one when it would have started
pub record IsContinuedPlan (r : RunData) (m : ℕ) (plan : Plan) : Type 0 where
  pub same : plan ≡ record r.plan {
    domains = plan.domains;
    start = time_text r.plan.start (time_after r m);
    steps = r.plan.steps - m;
    restart = true;
    version = plan.version;
  }
  pub count : length plan.domains ≡ length r.plan.domains
  pub domains : (d : ℕ) → IsDomain r.plan d → IsSameDomain (domain_of r.plan d) (domain_of plan d)
  pub started : (d : ℕ) → IsDomain r.plan d → goes_on r m d ≡ true →
      (domain_of plan d).begins ≤ℤ pos 0
  pub waiting : (d : ℕ) → IsDomain r.plan d → goes_on r m d ≡ false →
      (domain_of plan d).begins +ℤ pos (time_after r m) ≡ (domain_of r.plan d).begins

-- a domain that goes on has its steps and its first start; each other one begins as it would have
-- begun
unfoldable pub begin_after : RunData → ℕ → ℕ → Begin
begin_after r m d =
    if goes_on r m d
    then record {
      steps = steps_after r m d;
      start_text = (begin_of r.initial.begins d).start_text;
      resumed = true;
    }
    else begin_of r.initial.begins d

-- of the levels of a domain that goes on those that restart files hold are as they are then, and
-- the others 0
abbrev pub level_after : RunData → ℕ → ℕ → ℕ → List ℤ
level_after r m d f = if is_restored r.plan f
    then level_list r.plan d f (grids_at r (place_after r m)) else zeros r.plan d f

unfoldable pub levels_after : RunData → ℕ → ℕ → List (List ℤ)
levels_after r m d = if goes_on r m d then map (level_after r m d) (levels_of r.plan)
    else slice_index_or r.initial.grids (d - 1) no_lists

-- what the run that goes on begins with
unfoldable pub initial_after : RunData → ℕ → Initial
initial_after r m = record {
  grids = map (levels_after r m) (domains_of r.plan);
  begins = map (begin_after r m) (domains_of r.plan);
}

-- s is the run that goes on from the restart frames of r after m steps
pub record IsContinuedBy (r : RunData) (m : ℕ) (s : RunData) : Type 0 where
  pub plan : IsContinuedPlan r m s.plan
  pub initial : s.initial ≡ initial_after r m
  pub answers : s.answers ≡ r.answers
