-- The script's parts of one nest at a time, and what a plan keeps so that its numbers fit.
use Rattle.std.specs.Prelude.{◌≡◌, ℕ, ◌+◌, ◌*◌, ◌==◌, ◌<◌, ◌≤◌, Bool, ◌&&◌, nat_lt, List, [], ◌∷◌}
use Rattle.std.specs.Prelude.{◌++◌, length, if◌then◌else◌, flat_map}
use Rattle.std.specs.List.{range_with_len}
use Rattle.wf_model.specs.declared.plan.Plan.{Plan}
use Rattle.wf_model.specs.declared.initial.Begin.{Begin}
use Rattle.wf_model.specs.declared.script.Act.TheVariants.{Start, Force, Feedback}
use Rattle.wf_model.specs.declared.script.Entry.{Entry}
use Rattle.wf_model.specs.Plans.{domain_of, begin_of}
use Rattle.wf_model.specs.Script.{entry, starts_at, has_started_by, steps_by, start_frames, step_of}
use Rattle.wf_model.specs.Sound.{IsDomain}

-- c is a nest of d
abbrev pub is_nest_of : Plan → ℕ → ℕ → Bool
is_nest_of plan d c = nat_lt 1 c && ((domain_of plan c).parent == d)

module _ (plan : Plan) (begins : List Begin) where
  -- the items of c where it is a nest of d that starts at this time
  unfoldable pub nest_start : ℕ → ℕ → ℕ → List Entry
  nest_start d t c =
      if is_nest_of plan d c
      then (if starts_at plan begins c t
      then entry c 0 t Start ∷ start_frames plan begins c t else [])
      else []

  -- the items of c, where it is a nest of d that has started, in a step of d that begins at
  -- this time
  unfoldable pub nest_step : ℕ → ℕ → ℕ → ℕ → ℕ → List Entry
  nest_step depth d step t c =
      if is_nest_of plan d c
      then (if has_started_by plan begins c t
      then entry c (steps_by plan begins c t + 1) t Force
      ∷ (flat_map (λ n. step_of plan begins depth c (t + n * (domain_of plan c).seconds))
      (range_with_len 0 (domain_of plan c).time_ratio)
      ++ (if plan.feedback then entry c step t Feedback ∷ [] else []))
      else [])
      else []

  -- the numbers of its script fit their types
  pub record IsCounted : Type 0 where
    pub some : 1 ≤ length plan.domains
    pub domains : length plan.domains ≤ 8
    pub items : length plan.items ≤ 256
    pub begins_count : length begins ≡ length plan.domains
    pub seconds : (d : ℕ) → IsDomain plan d → 1 ≤ (domain_of plan d).seconds
    pub streams : (d : ℕ) → IsDomain plan d → length (domain_of plan d).intervals ≡ 10
    pub steps : (d : ℕ) → IsDomain plan d → (begin_of begins d).steps ≤ 1000000000
    pub nests : (c : ℕ) → 1 < c → IsDomain plan c → (domain_of plan c).seconds
        * (domain_of plan c).time_ratio ≡ (domain_of plan (domain_of plan c).parent).seconds
