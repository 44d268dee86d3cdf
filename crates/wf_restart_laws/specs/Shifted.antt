-- The script of a run that goes on is the rest of the other run's script, with its times counted
-- from the restart time.
use Rattle.std.specs.Prelude.{◌≡◌, ℕ, ◌+◌, ◌-◌, ◌*◌, ◌≤◌, Bool, ◌||◌, nat_lt, List, ◌++◌, length}
use Rattle.std.specs.Prelude.{map, flat_map}
use Rattle.std.specs.List.{range_with_len}
use Rattle.wf_model.specs.declared.initial.Begin.{Begin}
use Rattle.wf_model.specs.declared.script.Entry.{Entry}
use Rattle.wf_model.specs.declared.plan.Plan.{Plan}
use Rattle.wf_model.specs.Plans.{domain_of, begin_of}
use Rattle.wf_model.specs.Script.{begin_time, steps_by, starts_at, has_started_by, step_of}
use Rattle.wf_model.specs.Outcome.{RunData, script}
use Rattle.wf_model.specs.Sound.{IsDomain}
use Rattle.wf_model.specs.SoundRun.{IsSoundRun}
use Rattle.wf_model.specs.Continued.{time_after, first_steps, IsContinuedBy, IsSameDomain}

-- the same item, so many seconds later
abbrev pub later_by : ℕ → Entry → Entry
later_by n e = record { domain = e.domain; step = e.step; time = e.time + n; act = e.act }

-- the n-th step of domain 1 with all that its nests do in it, from 0
abbrev pub step_entries : RunData → ℕ → List Entry
step_entries r n =
    step_of r.plan r.initial.begins (length r.plan.domains) 1 (n * (domain_of r.plan 1).seconds)

-- a script is its first steps and those that follow
abbrev pub ScriptsSplitAfterSteps : Type 0
ScriptsSplitAfterSteps =
    (r : RunData) (m : ℕ) → m ≤ r.plan.steps →
    script r ≡ first_steps r m
    ++ flat_map (λ n. step_entries r (m + n)) (range_with_len 0 (r.plan.steps - m))

-- two plans that are the same but for starts, files' frames, the run's time, restart and the
-- version of files
pub record AreAlike (p q : Plan) : Type 0 where
  pub count : length q.domains ≡ length p.domains
  pub domains : (d : ℕ) → IsSameDomain (domain_of p d) (domain_of q d)
  pub fields : q.fields ≡ p.fields
  pub items : q.items ≡ p.items
  pub feedback : q.feedback ≡ p.feedback
  pub bdy_width : q.bdy_width ≡ p.bdy_width
  pub restart_steps : q.restart_steps ≡ p.restart_steps

-- so are those of a run and of the run that goes on
abbrev pub ContinuedPlansAreAlike : Type 0
ContinuedPlansAreAlike = (r s : RunData) (m : ℕ) → IsContinuedBy r m s → AreAlike r.plan s.plan

-- it resumed, or started before this time
abbrev pub has_begun_by : Plan → List Begin → ℕ → ℕ → Bool
has_begun_by plan begins d t = (begin_of begins d).resumed || nat_lt (begin_time plan begins d) t

-- at a time t after the restart time, a whole number of the domain's steps: how many steps it has
-- behind it, and whether it starts then, has started, or started before
pub record HasSameTimes (r : RunData) (m : ℕ) (s : RunData) (d t : ℕ) : Type 0 where
  pub steps : steps_by s.plan s.initial.begins d t
      ≡ steps_by r.plan r.initial.begins d (t + time_after r m)
  pub starts : starts_at s.plan s.initial.begins d t
      ≡ starts_at r.plan r.initial.begins d (t + time_after r m)
  pub has_started : has_started_by s.plan s.initial.begins d t
      ≡ has_started_by r.plan r.initial.begins d (t + time_after r m)
  pub begun : has_begun_by s.plan s.initial.begins d t
      ≡ has_begun_by r.plan r.initial.begins d (t + time_after r m)

abbrev pub DomainsHaveTheSameTimes : Type 0
DomainsHaveTheSameTimes =
    (r s : RunData) (m d n : ℕ) → IsSoundRun r → 1 ≤ m → m ≤ r.plan.steps → IsContinuedBy r m s →
    IsDomain r.plan d → HasSameTimes r m s d (n * (domain_of r.plan d).seconds)

-- a step of any domain
abbrev pub StepsAreShifted : Type 0
StepsAreShifted =
    (r s : RunData) (m depth d n : ℕ) → IsSoundRun r → 1 ≤ m → m ≤ r.plan.steps →
    IsContinuedBy r m s → IsDomain r.plan d →
    step_of r.plan r.initial.begins depth d (n * (domain_of r.plan d).seconds + time_after r m)
    ≡ map (later_by (time_after r m))
    (step_of s.plan s.initial.begins depth d (n * (domain_of r.plan d).seconds))

-- the whole
abbrev pub ScriptsAreShifted : Type 0
ScriptsAreShifted =
    (r s : RunData) (m : ℕ) → IsSoundRun r → 1 ≤ m → m ≤ r.plan.steps → IsContinuedBy r m s →
    script r ≡ first_steps r m ++ map (later_by (time_after r m)) (script s)
