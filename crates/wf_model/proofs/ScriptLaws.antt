-- The script by its parts, and that its numbers fit.
use Rattle.std.proofs.Common.{◌≡◌, ℕ, suc, ◌+◌, ◌-◌, ◌*◌, ◌^◌, ◌≤◌, true, false, List, [], ◌∷◌, ◌++◌, length, refl, sym, ap, ◌∙◌, subst, arith}
use Rattle.std.specs.Prelude.{flat_map, if◌then◌else◌, nat_lt, ◌==◌}
use Rattle.std.specs.List.{All, range_with_len}
use Rattle.wf_model.specs.declared.plan.Plan.{Plan}
use Rattle.wf_model.specs.declared.initial.Begin.{Begin}
use Rattle.wf_model.specs.declared.script.Act.TheVariants.{Start, Force, Feedback}
use Rattle.wf_model.specs.declared.script.Entry.{Entry}
use Rattle.wf_model.specs.Plans.{domain_of, children, domains_of, no_domain}
use Rattle.wf_model.specs.Script.{entry, starts, starts_at, start_frames, table, has_started_by, due_frames, restart_frames, step_of, steps_by}
use Rattle.wf_model.specs.ScriptParts.{IsCounted, is_nest_of, nest_start, nest_step}
use Rattle.wf_model.specs.Calendar.{moment_of}
use Rattle.wf_model.specs.Dates.{days_before, last_moment, seconds_before}
use Rattle.wf_model.specs.Outcome.{RunData}
use Rattle.wf_model.specs.Ranges.{IsRangedDomain}
use Rattle.wf_model.specs.Sound.{IsDomain}
use Rattle.wf_model.specs.SoundRun.{IsSoundRun}
use Rattle.wf_model.proofs.RangeParts.{added, none_if, none_if_inner, twice_picked}

module _ (plan : Plan) (begins : List Begin) where
  pub starts_parts : (d t : ℕ) → starts plan begins d t ≡ flat_map (nest_start plan begins d t) (domains_of plan)
  unfolding children nest_start
  starts_parts d t =
      twice_picked (λ c. if starts_at plan begins c t then entry c 0 t Start ∷ start_frames plan begins c t else []) (λ c. (domain_of plan c).parent == d) (nat_lt 1) (domains_of plan)

  -- the nests of a domain in a step
  pub nests_parts : (depth d step t : ℕ) → flat_map (λ c. if has_started_by plan begins c t
      then entry c (steps_by plan begins c t + 1) t Force
      ∷ (flat_map (λ n. step_of plan begins depth c (t + n * (domain_of plan c).seconds)) (range_with_len 0 (domain_of plan c).time_ratio)
      ++ (if plan.feedback then entry c step t Feedback ∷ [] else []))
      else []) (children plan d) ≡ flat_map (nest_step plan begins depth d step t) (domains_of plan)
  unfolding children nest_step
  nests_parts depth d step t =
      twice_picked (λ c. if has_started_by plan begins c t
      then entry c (steps_by plan begins c t + 1) t Force
      ∷ (flat_map (λ n. step_of plan begins depth c (t + n * (domain_of plan c).seconds)) (range_with_len 0 (domain_of plan c).time_ratio)
      ++ (if plan.feedback then entry c step t Feedback ∷ [] else []))
      else []) (λ c. (domain_of plan c).parent == d) (nat_lt 1) (domains_of plan)

  -- a step by its parts
  pub step_parts : (depth d t : ℕ) → step_of plan begins (suc depth) d t ≡
      starts plan begins d t
      ++ table plan begins d (steps_by plan begins d t + 1) t
      ++ flat_map (nest_step plan begins depth d (steps_by plan begins d t + 1) t) (domains_of plan)
      ++ due_frames plan begins d (steps_by plan begins d t + 1) (t + (domain_of plan d).seconds)
      ++ (if d == 1 then restart_frames plan begins (steps_by plan begins d t + 1) (t + (domain_of plan d).seconds) else [])
  unfolding step_of
  step_parts depth d t =
      ap (λ (nests : List Entry). starts plan begins d t
      ++ table plan begins d (steps_by plan begins d t + 1) t
      ++ nests
      ++ due_frames plan begins d (steps_by plan begins d t + 1) (t + (domain_of plan d).seconds)
      ++ (if d == 1 then restart_frames plan begins (steps_by plan begins d t + 1) (t + (domain_of plan d).seconds) else []))
      (nests_parts depth d (steps_by plan begins d t + 1) t)

  -- no step at no depth
  pub no_step : (depth d t : ℕ) → depth ≡ 0 → step_of plan begins depth d t ≡ []
  unfolding step_of
  no_step depth d t none = ap (λ k. step_of plan begins k d t) none

  -- a step by its parts, with its number and its end
  pub whole_step : (depth d t step end : ℕ) → 1 ≤ depth → step ≡ steps_by plan begins d t + 1 → end ≡ t + (domain_of plan d).seconds → step_of plan begins depth d t ≡
      starts plan begins d t
      ++ table plan begins d step t
      ++ flat_map (nest_step plan begins (depth - 1) d step t) (domains_of plan)
      ++ due_frames plan begins d step end
      ++ (if d == 1 then restart_frames plan begins step end else [])
  whole_step depth d t step end deep number ends =
      let one_less : depth ≡ suc (depth - 1) = omega arith in
      ap (λ k. step_of plan begins k d t) one_less
      ∙ step_parts (depth - 1) d t
      ∙ (λ i. starts plan begins d t
      ++ table plan begins d (sym number i) t
      ++ flat_map (nest_step plan begins (depth - 1) d (sym number i) t) (domains_of plan)
      ++ due_frames plan begins d (sym number i) (sym ends i)
      ++ (if d == 1 then restart_frames plan begins (sym number i) (sym ends i) else []))

  -- the items of a nest that starts
  pub start_is : (d t c : ℕ) → is_nest_of plan d c ≡ true → starts_at plan begins c t ≡ true → nest_start plan begins d t c ≡ entry c 0 t Start ∷ start_frames plan begins c t
  unfolding nest_start
  start_is d t c nest starting = λ i. if nest i then (if starting i then entry c 0 t Start ∷ start_frames plan begins c t else []) else []

  -- those of a nest that has started
  pub nest_step_is : (depth d step t c number : ℕ) → is_nest_of plan d c ≡ true → has_started_by plan begins c t ≡ true → number ≡ steps_by plan begins c t + 1
      → nest_step plan begins depth d step t c ≡ entry c number t Force
      ∷ (flat_map (λ n. step_of plan begins depth c (t + n * (domain_of plan c).seconds)) (range_with_len 0 (domain_of plan c).time_ratio)
      ++ (if plan.feedback then entry c step t Feedback ∷ [] else []))
  unfolding nest_step
  nest_step_is depth d step t c number nest started is = λ i. if nest i then (if started i then entry c (sym is i) t Force
      ∷ (flat_map (λ n. step_of plan begins depth c (t + n * (domain_of plan c).seconds)) (range_with_len 0 (domain_of plan c).time_ratio)
      ++ (if plan.feedback then entry c step t Feedback ∷ [] else []))
      else []) else []

  -- nothing where it is no nest of the domain, or does not start, or has not started
  pub no_start : (d t c : ℕ) (items : List Entry) → is_nest_of plan d c ≡ false → items ≡ items ++ nest_start plan begins d t c
  unfolding nest_start
  no_start d t c items other = none_if (is_nest_of plan d c) items (if starts_at plan begins c t then entry c 0 t Start ∷ start_frames plan begins c t else []) other

  pub no_start_yet : (d t c : ℕ) (items : List Entry) → starts_at plan begins c t ≡ false → items ≡ items ++ nest_start plan begins d t c
  unfolding nest_start
  no_start_yet d t c items other = none_if_inner (is_nest_of plan d c) (starts_at plan begins c t) items (entry c 0 t Start ∷ start_frames plan begins c t) other

  pub no_nest_step : (depth d step t c : ℕ) (items : List Entry) → is_nest_of plan d c ≡ false → items ≡ items ++ nest_step plan begins depth d step t c
  unfolding nest_step
  no_nest_step depth d step t c items other =
      none_if (is_nest_of plan d c) items (if has_started_by plan begins c t
      then entry c (steps_by plan begins c t + 1) t Force
      ∷ (flat_map (λ n. step_of plan begins depth c (t + n * (domain_of plan c).seconds)) (range_with_len 0 (domain_of plan c).time_ratio)
      ++ (if plan.feedback then entry c step t Feedback ∷ [] else []))
      else []) other

  pub no_nest_step_yet : (depth d step t c : ℕ) (items : List Entry) → has_started_by plan begins c t ≡ false → items ≡ items ++ nest_step plan begins depth d step t c
  unfolding nest_step
  no_nest_step_yet depth d step t c items other =
      none_if_inner (is_nest_of plan d c) (has_started_by plan begins c t) items (entry c (steps_by plan begins c t + 1) t Force
      ∷ (flat_map (λ n. step_of plan begins depth c (t + n * (domain_of plan c).seconds)) (range_with_len 0 (domain_of plan c).time_ratio)
      ++ (if plan.feedback then entry c step t Feedback ∷ [] else []))) other

-- five parts, one behind the other
pub five_parts : {A : Type 0} (start i j k l new a b c d e whole : List A) → i ≡ start ++ a → j ≡ i ++ b → k ≡ j ++ c → l ≡ k ++ d → new ≡ l ++ e → whole ≡ a ++ b ++ c ++ d ++ e → new ≡ start ++ whole
five_parts start i j k l new a b c d e whole first second third fourth fifth is =
    added start (a ++ b ++ c ++ d) e whole l new
    (added start (a ++ b ++ c) d (a ++ b ++ c ++ d) k l
    (added start (a ++ b) c (a ++ b ++ c) j k
    (added start a b (a ++ b) i j first second refl) third refl) fourth refl) fifth is

-- one and two parts, one behind the other
pub three_parts : {A : Type 0} (start i j new : List A) (x : A) (b c whole : List A) → i ≡ start ++ x ∷ [] → j ≡ i ++ b → new ≡ j ++ c → whole ≡ x ∷ (b ++ c) → new ≡ start ++ whole
three_parts start i j new x b c whole first second third is =
    added start (x ∷ b) c whole j new (added start (x ∷ []) b (x ∷ b) i j first second refl) third is

-- ---- what a sound run keeps

last_second : seconds_before last_moment ≡ 315537897599
unfolding days_before
last_second = refl

rest : (a b c : ℕ) → a + b ≤ c → b ≤ c
rest a b c within = omega arith

-- its steps end early
pub ends_early : (r : RunData) (plan : Plan) → plan ≡ r.plan → IsSoundRun r → plan.steps * (domain_of plan 1).seconds ≤ 2 ^ 62
ends_early r plan is sound =
    subst (λ (p : Plan). p.steps * (domain_of p 1).seconds ≤ 2 ^ 62) (sym is)
    (let finish : r.plan.steps * (domain_of r.plan 1).seconds ≤ seconds_before last_moment = rest (seconds_before (moment_of r.plan.start)) (r.plan.steps * (domain_of r.plan 1).seconds) (seconds_before last_moment) sound.ranged.time.finish in
    omega (arith, finish, last_second))

-- ten streams of each domain
ten_streams : (plan : Plan) → All IsRangedDomain plan.domains → (d : ℕ) → IsDomain plan d → length (domain_of plan d).intervals ≡ 10
unfolding domain_of
ten_streams plan ranged d at = (ranged (d - 1) no_domain (omega (arith, at.0, at.1))).interval_count

-- and its numbers fit
pub counted : (r : RunData) (plan : Plan) (begins : List Begin) → plan ≡ r.plan → begins ≡ r.initial.begins → IsSoundRun r → IsCounted plan begins
counted r plan begins is begins_are sound =
    subst (λ (p : Plan). IsCounted p begins) (sym is)
    (subst (λ (bs : List Begin). IsCounted r.plan bs) (sym begins_are) (record {
      some = sound.sound.some;
      domains = sound.ranged.limits.domains;
      items = sound.ranged.limits.items;
      begins_count = sound.fitting.begins;
      seconds = sound.sound.steps;
      streams = ten_streams r.plan sound.ranged.domains;
      steps = λ d at. (sound.fitting.sound d at).steps;
      nests = λ c nest at. (sound.sound.nests c nest at).seconds;
    }))
