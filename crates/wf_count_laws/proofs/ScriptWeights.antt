-- The script weighs what its domains weigh.
use Rattle.std.proofs.Common.{◌≡◌, inl, inr, ℕ, zero, suc, ◌+◌, ◌-◌, ◌*◌, ◌/◌, ◌%◌, ◌≤◌, ◌<◌, Bool, true, false, List, [], ◌∷◌, ◌++◌, map, length, refl, sym, ap, ◌∙◌, arith}
use Rattle.std.proofs.lemmas.Bool.{cases_lt}
use Rattle.std.proofs.lemmas.Bool.Decides.{nat_tests}
use Rattle.std.proofs.lemmas.Nat.{div-mul-add, div-add-mod', mul-le}
use Rattle.std.proofs.lemmas.List.Sums.{sum_by-cons, sum_by-append}
use Rattle.std.specs.Prelude.{filter, flat_map, sum_by, slice_index, ◌==◌, ◌||◌, nat_lt, if◌then◌else◌}
use Rattle.std.specs.List.{range_with_len}
use Rattle.wf_model.specs.declared.plan.Plan.{Plan}
use Rattle.wf_model.specs.declared.initial.Begin.{Begin}
use Rattle.wf_model.specs.declared.script.Act.TheVariants.{Start, Force, Feedback, Table, Emit}
use Rattle.wf_model.specs.declared.script.Entry.{Entry}
use Rattle.wf_model.specs.Plans.{domain_of, begin_of, domains_of, children, up_to}
use Rattle.wf_model.specs.Script.{entry, interval, is_due, restart_stream, begin_time, steps_by, starts_at, has_started_by, start_frames, due_frames, starts, table, restart_frames, step_of, script_of}
use Rattle.wf_model.specs.Streams.{one_if}
use Rattle.wf_model.specs.Counts.{fresh_begins, fresh_script, own_steps, due_steps}
use Rattle.wf_model.specs.Sound.{IsDomain}
use Rattle.wf_laws.proofs.Bools.{if_true, if_false, unlike, equal_or_less, same_number}
use Rattle.wf_laws.proofs.Members.{In-range_out}
use Rattle.wf_model.specs.Weights.{Weights, script_weight, begins_at, parent_seconds, run_seconds, restart_count, table_weight, start_frames_weight, steps_weight, start_weight, nesting_weight, nest_weight, domain_weight, weight_by_domains, IsNestInTime, HasDomainsInTime}
use Rattle.wf_count_laws.specs.Weights.{ScriptsWeighByDomains}
use Rattle.wf_count_laws.proofs.Sums.{sum-same, sum-both, sum-three, sum-zeros, sum-flat_map, sum-map, sum-map_filter, sum-range}
use Rattle.wf_count_laws.proofs.Due.{due_steps-more, due_steps-zero, due_steps-below}
use Rattle.wf_count_laws.proofs.Fresh.{not_resumed, steps_are, starts_is, started_is, begun_is}
use Rattle.wf_count_laws.proofs.Trees.{nests_to, tree, IsNestTo, nest_of, tree-all}

-- ---- numbers

-- so many steps more
more_steps : (x s n : ℕ) → 1 ≤ s → (n * s + x) / s ≡ n + x / s
more_steps x s n h =
    let rest : x % s < s = omega (arith, h) in
    let whole : n * s + x ≡ (n + x / s) * s + x % s = grind (arith, div-add-mod' x s) in
    ap (λ k. k / s) whole ∙ div-mul-add (n + x / s) s (x % s) rest

-- the steps from a begin to a time, and so many more
steps_on : (t b s n : ℕ) → 1 ≤ s → b ≤ t → (t + n * s - b) / s ≡ (t - b) / s + n
steps_on t b s n h le =
    let same : t + n * s - b ≡ n * s + (t - b) = omega (arith, le) in
    ap (λ k. k / s) same ∙ omega (arith, more_steps (t - b) s n h)

nothing_over : (k : ℕ) → 1 ≤ k → 0 / k ≡ 0
nothing_over k h = omega (arith, h)

no_times : (p v : ℕ) → p ≡ 0 → p * v ≡ 0
no_times p v e = ap (λ (x : ℕ). x * v) e ∙ omega arith

one_row : (n v : ℕ) → suc n * v ≡ v + n * v
one_row n v = grind arith

one_more_row : (p q v : ℕ) → p ≡ q + 1 → p * v ≡ v + q * v
one_more_row p q v e = ap (λ (x : ℕ). x * v) e ∙ grind arith

-- a begin that is a whole number of steps, and comes after one, comes after the next
next_whole : (b t n s : ℕ) → 1 ≤ s → b % s ≡ 0 → t ≡ n * s → t < b → t + s ≤ b
next_whole b t n s h whole is after =
    let all : b / s * s ≡ b = omega (arith, div-add-mod' b s, whole) in
    elim (cases_lt n (b / s)) [
      | inl less ↦ let more : (n + 1) * s ≤ b / s * s = mul-le (n + 1) s (b / s) s (omega (arith, less)) (omega arith) in let row : (n + 1) * s ≡ n * s + s = grind arith in omega (arith, all, more, row, is)
      | inr none ↦ let few : b / s * s ≤ n * s = mul-le (b / s) s n s (omega (arith, none)) (omega arith) in absurd (omega (arith, all, few, is, after))
    ]

-- a due step counts once
due_one : (b : Bool) (p q v : ℕ) → p ≡ q + one_if b → (if b then v else 0) + q * v ≡ p * v
due_one true p q v e = sym (ap (λ (x : ℕ). x * v) e ∙ grind arith)
due_one false p q v e = sym (ap (λ (x : ℕ). x * v) e ∙ grind arith)

-- a begin before the end of step n
begins_by : (b s n : ℕ) → 1 ≤ s → b < suc n * s → b / s ≤ n
begins_by b s n h lt =
    let all : b / s * s + b % s ≡ b = div-add-mod' b s in
    elim (cases_lt n (b / s)) [
      | inl more ↦ let far : suc n * s ≤ b / s * s = mul-le (suc n) s (b / s) s (omega (arith, more)) (omega arith) in absurd (omega (arith, all, far, lt))
      | inr few ↦ omega (arith, few)
    ]

begins_later : (b s n : ℕ) → 1 ≤ s → suc n * s ≤ b → suc n ≤ b / s
begins_later b s n h le =
    let all : b / s * s + b % s ≡ b = div-add-mod' b s in
    let rest : b % s < s = omega (arith, h) in
    elim (cases_lt (b / s) (suc n)) [
      | inl few ↦ let low : (b / s + 1) * s ≤ suc n * s = mul-le (b / s + 1) s (suc n) s (omega (arith, few)) (omega arith) in let row : (b / s + 1) * s ≡ b / s * s + s = grind arith in absurd (omega (arith, all, rest, low, row, le))
      | inr more ↦ omega (arith, more)
    ]

-- a restart frame of a domain that has begun, or has not
restart_one : (due begun : Bool) (dn ds dq v : ℕ) → ds ≡ dn + one_if due → (begun ≡ true → dq ≤ dn) → (begun ≡ false → ds ≤ dq) → (if due then (if begun then v else 0) else 0) + (dn - dq) * v ≡ (ds - dq) * v
restart_one true true dn ds dq v e on off = sym (one_more_row (ds - dq) (dn - dq) v (let l : dq ≤ dn = on refl in omega (arith, e, l)))
restart_one true false dn ds dq v e on off =
    let l : ds ≤ dq = off refl in
    omega (arith, no_times (dn - dq) v (omega (arith, e, l)), no_times (ds - dq) v (omega (arith, l)))
restart_one false b dn ds dq v e on off = let same : dn - dq ≡ ds - dq = omega (arith, e) in ap (λ (x : ℕ). 0 + x * v) same ∙ omega arith

-- a nest starts before, or now, or has not yet
start_now : (b t s v : ℕ) → 1 ≤ s → b ≤ t → (if b == t then v else 0) + (if nat_lt b t then v else 0) ≡ (if nat_lt b (t + s) then v else 0)
start_now b t s v h le =
    let soon : (if nat_lt b (t + s) then v else 0) ≡ v = if_true (nat_lt b (t + s)) v 0 (grind (arith, nat_tests)) in
    elim (equal_or_less b t le) [
      | inl e ↦
          let one : (if b == t then v else 0) ≡ v = if_true (b == t) v 0 (ap (λ (x : ℕ). b == x) (sym e) ∙ same_number b) in
          let two : (if nat_lt b t then v else 0) ≡ 0 = if_false (nat_lt b t) v 0 (grind (arith, nat_tests)) in
          omega (arith, soon, one, two)
      | inr l ↦
          let one : (if b == t then v else 0) ≡ 0 = if_false (b == t) v 0 (unlike b t (λ e. omega (arith, l, e))) in
          let two : (if nat_lt b t then v else 0) ≡ v = if_true (nat_lt b t) v 0 (grind (arith, nat_tests)) in
          omega (arith, soon, one, two)
    ]

module _ (plan : Plan) (w : Weights) (timed : HasDomainsInTime plan) where
  abbrev begins : List Begin
  begins = fresh_begins plan

  abbrev sec : ℕ → ℕ
  sec d = (domain_of plan d).seconds

  abbrev at : ℕ → ℕ
  at d = begins_at plan d

  abbrev count : ℕ
  count = length plan.domains

  abbrev weight : Entry → ℕ
  weight e = w e.domain e.act

  -- ---- the parts of a step

  table_is : (d step t : ℕ) → sum_by weight (table plan begins d step t) ≡ table_weight plan w d
  table_is d step t = sum-map weight (λ n. entry d step t (Table n)) (range_with_len 0 (length plan.items))

  start_frames_are : (d t : ℕ) → sum_by weight (start_frames plan begins d t) ≡ start_frames_weight plan w d
  start_frames_are d t = sum-map_filter weight (λ s. entry d 0 t (Emit s)) (λ s. nat_lt 0 (interval plan begins d s)) (range_with_len 0 10)

  -- the frames that are due after a step
  abbrev due_weight : ℕ → ℕ → ℕ
  due_weight d step = sum_by (λ s. if is_due (slice_index (domain_of plan d).intervals s) step then w d (Emit s) else 0) (range_with_len 0 10)

  due_are : (d step t : ℕ) → sum_by weight (due_frames plan begins d step t) ≡ due_weight d step
  due_are d step t = sum-map_filter weight (λ s. entry d step t (Emit s)) (λ s. is_due (interval plan begins d s) step) (range_with_len 0 10)

  -- a step, but for what nests do in it
  abbrev one_step : ℕ → ℕ → ℕ
  one_step d step = table_weight plan w d + due_weight d step

  steps_more : (d n : ℕ) → one_step d (suc n) + steps_weight plan w d n ≡ steps_weight plan w d (suc n)
  steps_more d n =
      let due = sum-both (λ s. if is_due (slice_index (domain_of plan d).intervals s) (suc n) then w d (Emit s) else 0) (λ s. due_steps (slice_index (domain_of plan d).intervals s) n * w d (Emit s)) (λ s. due_steps (slice_index (domain_of plan d).intervals s) (suc n) * w d (Emit s)) (range_with_len 0 10)
      (λ s i. due_one (is_due (slice_index (domain_of plan d).intervals s) (suc n)) (due_steps (slice_index (domain_of plan d).intervals s) (suc n)) (due_steps (slice_index (domain_of plan d).intervals s) n) (w d (Emit s)) (due_steps-more (slice_index (domain_of plan d).intervals s) n)) in
      omega (arith, due, one_row n (table_weight plan w d))

  steps_none : (d n : ℕ) → n ≡ 0 → steps_weight plan w d n ≡ 0
  steps_none d n e =
      let due = sum-zeros (λ s. due_steps (slice_index (domain_of plan d).intervals s) 0 * w d (Emit s)) (range_with_len 0 10) (λ s i. no_times (due_steps (slice_index (domain_of plan d).intervals s) 0) (w d (Emit s)) (due_steps-zero (slice_index (domain_of plan d).intervals s))) in
      ap (steps_weight plan w d) e ∙ omega (arith, due, no_times 0 (table_weight plan w d) refl)

  -- ---- what there is of a nest up to a time

  abbrev nest_by : ℕ → ℕ → ℕ
  nest_by c t = (if nat_lt (at c) t then start_weight plan w c else 0) + (t - at c) / parent_seconds plan c * nesting_weight plan w c

  abbrev so_far : ℕ → ℕ → ℕ
  so_far c t = steps_weight plan w c ((t - at c) / sec c) + nest_by c t

  -- and of all nests of a domain and theirs
  abbrev below : ℕ → ℕ → ℕ → ℕ
  below depth d t = tree plan (λ c. so_far c t) count depth d

  -- a nest of a domain
  abbrev Nest : ℕ → ℕ → Type 0
  Nest d c = IsNestTo plan count d c

  in_domains : (d c : ℕ) → Nest d c → IsDomain plan c
  in_domains d c k = (omega (arith, k.nest), k.within)

  in_time : (d c : ℕ) → Nest d c → IsNestInTime plan c
  in_time d c k = timed.nests c k.nest (in_domains d c k)

  parent_some : (d c : ℕ) → Nest d c → 1 ≤ parent_seconds plan c
  parent_some d c k = timed.steps (domain_of plan c).parent (in_time d c k).parent

  -- before its begin there is nothing
  early : (d c t : ℕ) → Nest d c → t ≤ at c → so_far c t ≡ 0
  early d c t k h =
      let none : t - at c ≡ 0 = omega (arith, h) in
      let own : (t - at c) / sec c ≡ 0 = ap (λ (x : ℕ). x / sec c) none ∙ nothing_over (sec c) (timed.steps c (in_domains d c k)) in
      let all : (t - at c) / parent_seconds plan c ≡ 0 = ap (λ (x : ℕ). x / parent_seconds plan c) none ∙ nothing_over (parent_seconds plan c) (parent_some d c k) in
      let start : (if nat_lt (at c) t then start_weight plan w c else 0) ≡ 0 = if_false (nat_lt (at c) t) (start_weight plan w c) 0 (grind (arith, nat_tests)) in
      omega (arith, steps_none c ((t - at c) / sec c) own, start, no_times ((t - at c) / parent_seconds plan c) (nesting_weight plan w c) all)

  none_below : (depth d t : ℕ) → t ≤ at d → below depth d t ≡ 0
  unfolding tree
  none_below zero d t h = refl
  none_below (suc depth) d t h = sum-zeros (λ c. so_far c t + below depth c t) (nests_to plan count d)
      (λ c i. let k : Nest d c = nest_of plan count d c i in
      let later : t ≤ at c = omega (arith, h, (in_time d c k).after_parent, ap at k.parent) in
      omega (arith, early d c t k later, none_below depth c t later))

  -- ---- a nest in a step of its parent

  abbrev start_part : ℕ → ℕ → List Entry
  start_part t c = if starts_at plan begins c t then entry c 0 t Start ∷ start_frames plan begins c t else []

  start_part_is : (t c : ℕ) → sum_by weight (start_part t c) ≡ (if at c == t then start_weight plan w c else 0)
  start_part_is t c = (λ i. sum_by weight (if starts_is plan c t i then entry c 0 t Start ∷ start_frames plan begins c t else [])) ∙ one (at c == t)
    where
      one : (b : Bool) → sum_by weight (if b then entry c 0 t Start ∷ start_frames plan begins c t else []) ≡ (if b then start_weight plan w c else 0)
      one true = sum_by-cons weight (entry c 0 t Start) (start_frames plan begins c t) ∙ ap (λ (x : ℕ). w c Start + x) (start_frames_are c t)
      one false = refl

  abbrev back_part : ℕ → ℕ → ℕ → List Entry
  back_part step t c = if plan.feedback then entry c step t Feedback ∷ [] else []

  back_part_is : (step t c : ℕ) → sum_by weight (back_part step t c) ≡ (if plan.feedback then w c Feedback else 0)
  back_part_is step t c = one plan.feedback
    where
      one : (b : Bool) → sum_by weight (if b then entry c step t Feedback ∷ [] else []) ≡ (if b then w c Feedback else 0)
      one true = sum_by-cons weight (entry c step t Feedback) [] ∙ omega arith
      one false = refl

  abbrev steps_part : ℕ → ℕ → ℕ → List Entry
  steps_part depth t c = flat_map (λ n. step_of plan begins depth c (t + n * sec c)) (range_with_len 0 (domain_of plan c).time_ratio)

  abbrev run_part : ℕ → ℕ → ℕ → ℕ → List Entry
  run_part depth step t c = if has_started_by plan begins c t then entry c (steps_by plan begins c t + 1) t Force ∷ (steps_part depth t c ++ back_part step t c) else []

  runs : (depth step t c : ℕ) → at c ≤ t → sum_by weight (run_part depth step t c) ≡ nesting_weight plan w c + sum_by weight (steps_part depth t c)
  runs depth step t c h =
      let yes : has_started_by plan begins c t ≡ true = started_is plan c t ∙ grind (arith, nat_tests) in
      ap (sum_by weight) (if_true (has_started_by plan begins c t) (entry c (steps_by plan begins c t + 1) t Force ∷ (steps_part depth t c ++ back_part step t c)) [] yes)
      ∙ sum_by-cons weight (entry c (steps_by plan begins c t + 1) t Force) (steps_part depth t c ++ back_part step t c)
      ∙ ap (λ (x : ℕ). w c Force + x) (sum_by-append weight (steps_part depth t c) (back_part step t c))
      ∙ omega (arith, back_part_is step t c)

  waits : (depth step t c : ℕ) → t < at c → sum_by weight (run_part depth step t c) ≡ 0
  waits depth step t c h =
      let no : has_started_by plan begins c t ≡ false = started_is plan c t ∙ grind (arith, nat_tests) in
      ap (sum_by weight) (if_false (has_started_by plan begins c t) (entry c (steps_by plan begins c t + 1) t Force ∷ (steps_part depth t c ++ back_part step t c)) [] no)

  -- ---- a step

  -- the restart frames after a step of domain 1
  abbrev last : ℕ → ℕ → List Entry
  last d t = if d == 1 then restart_frames plan begins (steps_by plan begins d t + 1) (t + sec d) else []

  abbrev StepWeighs : ℕ → Type 0
  StepWeighs depth = (d n t : ℕ) → IsDomain plan d → t ≡ n * sec d → at d ≤ t → count ≤ d + depth →
      sum_by weight (step_of plan begins (suc depth) d t) + below (suc depth) d t ≡ one_step d (suc ((t - at d) / sec d)) + sum_by weight (last d t) + below (suc depth) d (t + sec d)

  -- the steps of a nest in a step of its parent
  nest_steps : (depth d c n t : ℕ) → StepWeighs depth → Nest d c → count ≤ c + depth → t ≡ n * sec d → at c ≤ t →
      sum_by weight (steps_part (suc depth) t c) + (steps_weight plan w c ((t - at c) / sec c) + below (suc depth) c t) ≡ steps_weight plan w c ((t + sec d - at c) / sec c) + below (suc depth) c (t + sec d)
  nest_steps depth d c n t step k deep is h =
      let fill : sec c * (domain_of plan c).time_ratio ≡ sec d = (in_time d c k).seconds ∙ ap sec k.parent in
      let rows : t + (0 + (domain_of plan c).time_ratio) * sec c ≡ t + sec d = ap (λ (x : ℕ). t + x) (all_rows (domain_of plan c).time_ratio (sec c) ∙ fill) in
      let over : (t + sec d - at c) / sec c ≡ (t - at c) / sec c + (0 + (domain_of plan c).time_ratio)
      = ap (λ (x : ℕ). (x - at c) / sec c) (sym rows) ∙ steps_on t (at c) (sec c) (0 + (domain_of plan c).time_ratio) some h in
      ap (λ (x : ℕ). x + (steps_weight plan w c ((t - at c) / sec c) + below (suc depth) c t)) (sum-flat_map weight (λ j. step_of plan begins (suc depth) c (t + j * sec c)) (range_with_len 0 (domain_of plan c).time_ratio))
      ∙ ap (λ (x : ℕ). sum_by (λ j. sum_by weight (step_of plan begins (suc depth) c (t + j * sec c))) (range_with_len 0 (domain_of plan c).time_ratio) + x) (sym first)
      ∙ sum-range (λ j. sum_by weight (step_of plan begins (suc depth) c (t + j * sec c))) total grows 0 (domain_of plan c).time_ratio
      ∙ (λ i. steps_weight plan w c (sym over i) + below (suc depth) c (rows i))
    where
      some : 1 ≤ sec c
      some = timed.steps c (in_domains d c k)

      all_rows : (r s : ℕ) → (0 + r) * s ≡ s * r
      all_rows r s = grind arith

      total : ℕ → ℕ
      total j = steps_weight plan w c ((t - at c) / sec c + j) + below (suc depth) c (t + j * sec c)

      first : total 0 ≡ steps_weight plan w c ((t - at c) / sec c) + below (suc depth) c t
      first =
          let one : (t - at c) / sec c + 0 ≡ (t - at c) / sec c = omega arith in
          let two : t + 0 * sec c ≡ t = omega arith in
          λ i. steps_weight plan w c (one i) + below (suc depth) c (two i)

      -- a time that is a whole number of the nest's steps
      own_steps_are : (j : ℕ) → t + j * sec c ≡ (n * (domain_of plan c).time_ratio + j) * sec c
      own_steps_are j = ap (λ (x : ℕ). x + j * sec c) (is ∙ ap (λ (x : ℕ). n * x) (sym ((in_time d c k).seconds ∙ ap sec k.parent))) ∙ in_rows n (sec c) (domain_of plan c).time_ratio j
        where
          in_rows : (n s r j : ℕ) → n * (s * r) + j * s ≡ (n * r + j) * s
          in_rows n s r j = grind arith

      grows : (j : ℕ) → sum_by weight (step_of plan begins (suc depth) c (t + j * sec c)) + total j ≡ total (suc j)
      grows j =
          let now = step c (n * (domain_of plan c).time_ratio + j) (t + j * sec c) (in_domains d c k) (own_steps_are j) (omega (arith, h)) deep in
          let number : (t + j * sec c - at c) / sec c ≡ (t - at c) / sec c + j = steps_on t (at c) (sec c) j some h in
          let same : one_step c (suc ((t + j * sec c - at c) / sec c)) ≡ one_step c (suc ((t - at c) / sec c + j)) = ap (λ (x : ℕ). one_step c (suc x)) number in
          let nothing : sum_by weight (last c (t + j * sec c)) ≡ 0 = ap (sum_by weight) (if_false (c == 1) (restart_frames plan begins (steps_by plan begins c (t + j * sec c) + 1) (t + j * sec c + sec c)) [] (unlike c 1 (λ e. omega (arith, e, k.nest)))) in
          let more = steps_more c ((t - at c) / sec c + j) in
          let count_on : steps_weight plan w c (suc ((t - at c) / sec c + j)) ≡ steps_weight plan w c ((t - at c) / sec c + suc j) = ap (steps_weight plan w c) (omega arith) in
          let on : below (suc depth) c (t + j * sec c + sec c) ≡ below (suc depth) c (t + suc j * sec c) = ap (below (suc depth) c) (omega (arith, one_row j (sec c))) in
          omega (arith, now, same, nothing, more, count_on, on)

  -- a nest of a domain in a step of it
  nest_weighs : (depth d c n step t : ℕ) → StepWeighs depth → Nest d c → count ≤ c + depth → t ≡ n * sec d →
      sum_by weight (start_part t c) + sum_by weight (run_part (suc depth) step t c) + (so_far c t + below (suc depth) c t) ≡ so_far c (t + sec d) + below (suc depth) c (t + sec d)
  nest_weighs depth d c n step t steps k deep is = elim (cases_lt t (at c)) [
    | inl before ↦
        let parent : parent_seconds plan c ≡ sec d = ap sec k.parent in
        let whole : at c % sec d ≡ 0 = ap (λ (x : ℕ). at c % x) (sym parent) ∙ (in_time d c k).whole in
        let after : t + sec d ≤ at c = next_whole (at c) t n (sec d) (omega (arith, parent, parent_some d c k)) whole is before in
        let none : (if at c == t then start_weight plan w c else 0) ≡ 0 = if_false (at c == t) (start_weight plan w c) 0 (unlike (at c) t (λ e. omega (arith, e, before))) in
        omega (
          arith,
          start_part_is t c,
          none,
          waits (suc depth) step t c before,
          early d c t k (omega (arith, before)),
          none_below (suc depth) c t (omega (arith, before)),
          early d c (t + sec d) k after,
          none_below (suc depth) c (t + sec d) after,
        )
    | inr begun ↦
        let parent : parent_seconds plan c ≡ sec d = ap sec k.parent in
        let some : 1 ≤ sec d = omega (arith, parent, parent_some d c k) in
        let one : t + 1 * sec d ≡ t + sec d = omega arith in
        let more : (t + sec d - at c) / parent_seconds plan c ≡ (t - at c) / parent_seconds plan c + 1 =
        (λ i. (sym one i - at c) / parent i) ∙ steps_on t (at c) (sec d) 1 some begun ∙ ap (λ (x : ℕ). (t - at c) / x + 1) (sym parent) in
        omega (
          arith,
          start_part_is t c,
          start_now (at c) t (sec d) (start_weight plan w c) some begun,
          runs (suc depth) step t c begun,
          nest_steps depth d c n t steps k deep is begun,
          one_more_row ((t + sec d - at c) / parent_seconds plan c) ((t - at c) / parent_seconds plan c) (nesting_weight plan w c) more,
        )
  ]

  -- all nests of a domain in a step of it
  nests_weigh : (depth d n step t : ℕ) → ((c : ℕ) → Nest d c → sum_by weight (start_part t c) + sum_by weight (run_part depth step t c) + (so_far c t + below depth c t) ≡ so_far c (t + sec d) + below depth c (t + sec d)) →
      sum_by weight (starts plan begins d t) + sum_by weight (flat_map (run_part depth step t) (children plan d)) + below (suc depth) d t ≡ below (suc depth) d (t + sec d)
  unfolding children tree
  nests_weigh depth d n step t each =
      omega (
        arith,
        sum-flat_map weight (start_part t) (nests_to plan count d),
        sum-flat_map weight (run_part depth step t) (nests_to plan count d),
        sum-three (λ c. sum_by weight (start_part t c)) (λ c. sum_by weight (run_part depth step t c)) (λ c. so_far c t + below depth c t) (λ c. so_far c (t + sec d) + below depth c (t + sec d)) (nests_to plan count d)
            (λ c i. each c (nest_of plan count d c i)),
      )

  step_parts : (depth d t : ℕ) → step_of plan begins (suc depth) d t ≡
      (((starts plan begins d t ++ table plan begins d (steps_by plan begins d t + 1) t) ++ flat_map (run_part depth (steps_by plan begins d t + 1) t) (children plan d)) ++ due_frames plan begins d (steps_by plan begins d t + 1) (t + sec d))
      ++ last d t
  unfolding step_of
  step_parts depth d t = refl

  five : (a b c d e : List Entry) → sum_by weight ((((a ++ b) ++ c) ++ d) ++ e) ≡ sum_by weight a + sum_by weight b + sum_by weight c + sum_by weight d + sum_by weight e
  five a b c d e = omega (arith, sum_by-append weight (((a ++ b) ++ c) ++ d) e, sum_by-append weight ((a ++ b) ++ c) d, sum_by-append weight (a ++ b) c, sum_by-append weight a b)

  -- a step, by what its nests weigh
  with_nests : (depth d n t : ℕ) → ((c : ℕ) → Nest d c → sum_by weight (start_part t c) + sum_by weight (run_part depth (steps_by plan begins d t + 1) t c) + (so_far c t + below depth c t) ≡ so_far c (t + sec d) + below depth c (t + sec d)) →
      sum_by weight (step_of plan begins (suc depth) d t) + below (suc depth) d t ≡ one_step d (suc ((t - at d) / sec d)) + sum_by weight (last d t) + below (suc depth) d (t + sec d)
  with_nests depth d n t each =
      let number : steps_by plan begins d t + 1 ≡ suc ((t - at d) / sec d) = omega (arith, steps_are plan d t) in
      omega (
        arith,
        ap (sum_by weight) (step_parts depth d t),
        five (starts plan begins d t) (table plan begins d (steps_by plan begins d t + 1) t) (flat_map (run_part depth (steps_by plan begins d t + 1) t) (children plan d)) (due_frames plan begins d (steps_by plan begins d t + 1) (t + sec d)) (last d t),
        table_is d (steps_by plan begins d t + 1) t,
        due_are d (steps_by plan begins d t + 1) (t + sec d),
        ap (due_weight d) number,
        nests_weigh depth d n (steps_by plan begins d t + 1) t each,
      )

  step_weighs : (depth : ℕ) → StepWeighs depth
  step_weighs zero d n t dom is h deep = with_nests 0 d n t (λ c k. absurd (omega (arith, deep, k.within, k.parent, (in_time d c k).before)))
  step_weighs (suc depth) d n t dom is h deep = with_nests (suc depth) d n t
      (λ c k. nest_weighs depth d c n (steps_by plan begins d t + 1) t (step_weighs depth) k (omega (arith, deep, k.parent, (in_time d c k).before)) is)

  -- ---- the whole run

  -- the restart frames of all domains in the first steps
  abbrev restarts : ℕ → ℕ
  restarts n = sum_by (λ d. (due_steps plan.restart_steps n - due_steps plan.restart_steps (at d / sec 1)) * w d (Emit restart_stream)) (domains_of plan)

  first_some : 1 ≤ sec 1
  first_some = timed.steps 1 (omega arith, timed.some)

  restarts_are : (step t : ℕ) → sum_by weight (restart_frames plan begins step t) ≡ sum_by (λ d. if is_due plan.restart_steps step then (if nat_lt (at d) t then w d (Emit restart_stream) else 0) else 0) (domains_of plan)
  restarts_are step t = one (is_due plan.restart_steps step)
    where
      one : (b : Bool) → sum_by weight (if b then map (λ d. entry d (steps_by plan begins d t) t (Emit restart_stream)) (filter (λ d. (begin_of begins d).resumed || nat_lt (begin_time plan begins d) t) (domains_of plan)) else []) ≡ sum_by (λ d. if b then (if nat_lt (at d) t then w d (Emit restart_stream) else 0) else 0) (domains_of plan)
      one true =
          sum-map_filter weight (λ d. entry d (steps_by plan begins d t) t (Emit restart_stream)) (λ d. (begin_of begins d).resumed || nat_lt (begin_time plan begins d) t) (domains_of plan)
          ∙ sum-same (λ d. if (begin_of begins d).resumed || nat_lt (begin_time plan begins d) t then w d (Emit restart_stream) else 0) (λ d. if nat_lt (at d) t then w d (Emit restart_stream) else 0) (domains_of plan)
          (λ d i. ap (λ (x : Bool). if x then w d (Emit restart_stream) else 0) (begun_is plan d t))
      one false = sym (sum-zeros (λ d. 0) (domains_of plan) (λ d i. refl))

  restarts_more : (n t : ℕ) → t ≡ suc n * sec 1 → sum_by weight (restart_frames plan begins (suc n) t) + restarts n ≡ restarts (suc n)
  restarts_more n t is =
      ap (λ (x : ℕ). x + restarts n) (restarts_are (suc n) t)
      ∙ sum-both (λ d. if is_due plan.restart_steps (suc n) then (if nat_lt (at d) t then w d (Emit restart_stream) else 0) else 0) (λ d. (due_steps plan.restart_steps n - due_steps plan.restart_steps (at d / sec 1)) * w d (Emit restart_stream)) (λ d. (due_steps plan.restart_steps (suc n) - due_steps plan.restart_steps (at d / sec 1)) * w d (Emit restart_stream)) (domains_of plan)
      (λ d i. restart_one (is_due plan.restart_steps (suc n)) (nat_lt (at d) t) (due_steps plan.restart_steps n) (due_steps plan.restart_steps (suc n)) (due_steps plan.restart_steps (at d / sec 1)) (w d (Emit restart_stream))
      (due_steps-more plan.restart_steps n)
      (λ yes. let lt : at d < t = grind (arith, nat_tests) in due_steps-below plan.restart_steps (at d / sec 1) n (begins_by (at d) (sec 1) n first_some (omega (arith, lt, is))))
      (λ no. let le : t ≤ at d = grind (arith, nat_tests) in due_steps-below plan.restart_steps (suc n) (at d / sec 1) (begins_later (at d) (sec 1) n first_some (omega (arith, le, is)))))

  restarts_none : restarts 0 ≡ 0
  restarts_none = sum-zeros (λ d. (due_steps plan.restart_steps 0 - due_steps plan.restart_steps (at d / sec 1)) * w d (Emit restart_stream)) (domains_of plan)
      (λ d i. no_times (due_steps plan.restart_steps 0 - due_steps plan.restart_steps (at d / sec 1)) (w d (Emit restart_stream)) (omega (arith, due_steps-zero plan.restart_steps)))

  module _ (depth : ℕ) (deep : count ≡ suc depth) where
    -- what there is after so many steps of domain 1, but for its frames at the start
    abbrev after : ℕ → ℕ
    after n = steps_weight plan w 1 n + restarts n + below (suc depth) 1 (n * sec 1)

    step_number : (n : ℕ) → (n * sec 1 - at 1) / sec 1 ≡ n
    step_number n =
        let whole : n * sec 1 - at 1 ≡ n * sec 1 + 0 = omega (arith, timed.first) in
        ap (λ (x : ℕ). x / sec 1) whole ∙ div-mul-add n (sec 1) 0 (omega (arith, first_some))

    after_more : (n : ℕ) → sum_by weight (step_of plan begins (suc depth) 1 (n * sec 1)) + after n ≡ after (suc n)
    after_more n =
        let now = step_weighs depth 1 n (n * sec 1) (omega arith, timed.some) refl (omega (arith, timed.first)) (omega (arith, deep)) in
        let number : suc ((n * sec 1 - at 1) / sec 1) ≡ suc n = ap (λ (x : ℕ). suc x) (step_number n) in
        let same : one_step 1 (suc ((n * sec 1 - at 1) / sec 1)) ≡ one_step 1 (suc n) = ap (one_step 1) number in
        let step : steps_by plan begins 1 (n * sec 1) + 1 ≡ suc n = omega (arith, steps_are plan 1 (n * sec 1), step_number n) in
        let end : n * sec 1 + sec 1 ≡ suc n * sec 1 = omega (arith, one_row n (sec 1)) in
        let frames : sum_by weight (last 1 (n * sec 1)) ≡ sum_by weight (restart_frames plan begins (suc n) (n * sec 1 + sec 1)) = ap (λ (x : ℕ). sum_by weight (restart_frames plan begins x (n * sec 1 + sec 1))) step in
        omega (arith, now, same, frames, restarts_more n (n * sec 1 + sec 1) end, steps_more 1 n, ap (below (suc depth) 1) end)

    after_none : after 0 ≡ 0
    after_none =
        let start : 0 * sec 1 ≡ 0 = omega arith in
        omega (arith, steps_none 1 0 refl, restarts_none, none_below (suc depth) 1 (0 * sec 1) (omega (arith, start)))

    run_weighs : sum_by weight (flat_map (λ n. step_of plan begins (suc depth) 1 (n * sec 1)) (range_with_len 0 plan.steps)) ≡ after plan.steps
    run_weighs =
        let front : 0 + plan.steps ≡ plan.steps = omega arith in
        sum-flat_map weight (λ n. step_of plan begins (suc depth) 1 (n * sec 1)) (range_with_len 0 plan.steps)
        ∙ omega (arith, after_none, sum-range (λ n. sum_by weight (step_of plan begins (suc depth) 1 (n * sec 1))) after after_more 0 plan.steps, ap after front)

    script_weighs : script_weight plan w ≡ start_frames_weight plan w 1 + after plan.steps
    unfolding fresh_script script_of
    script_weighs =
        (λ i. sum_by weight ((if not_resumed plan 1 i then [] else start_frames plan begins 1 0) ++ flat_map (λ n. step_of plan begins (deep i) 1 (n * sec 1)) (range_with_len 0 plan.steps)))
        ∙ sum_by-append weight (start_frames plan begins 1 0) (flat_map (λ n. step_of plan begins (suc depth) 1 (n * sec 1)) (range_with_len 0 plan.steps))
        ∙ omega (arith, start_frames_are 1 0, run_weighs)

    -- ---- by domains

    -- a domain but for its restart frames
    abbrev own_part : ℕ → ℕ
    own_part d = steps_weight plan w d (own_steps plan d) + (if d == 1 then start_frames_weight plan w 1 else nest_weight plan w d)

    own_parts : sum_by own_part (domains_of plan) + restarts plan.steps ≡ weight_by_domains plan w
    unfolding domain_weight
    own_parts = sum-both own_part (λ d. restart_count plan d * w d (Emit restart_stream)) (domain_weight plan w) (domains_of plan) (λ d i. omega arith)

    before : (c : ℕ) → 1 < c → c ≤ count → (1 ≤ (domain_of plan c).parent) × ((domain_of plan c).parent < c)
    before c nest within = let x : IsNestInTime plan c = timed.nests c nest (omega (arith, nest), within) in (x.parent.0, x.before)

    -- the nests below domain 1 are all others
    all_nests : below (suc depth) 1 (run_seconds plan) ≡ sum_by own_part (range_with_len 2 depth)
    all_nests =
        let all = tree-all plan count before count (suc depth) (λ c. so_far c (run_seconds plan)) timed.some (omega arith) (omega (arith, deep)) in
        let split : sum_by (λ c. so_far c (run_seconds plan)) (up_to count) ≡ so_far 1 (run_seconds plan) + sum_by (λ c. so_far c (run_seconds plan)) (range_with_len 2 depth)
        = ap (λ (k : ℕ). sum_by (λ c. so_far c (run_seconds plan)) (up_to k)) deep ∙ sum_by-cons (λ c. so_far c (run_seconds plan)) 1 (range_with_len 2 depth) in
        let same = sum-same own_part (λ c. so_far c (run_seconds plan)) (range_with_len 2 depth)
        (λ c i. let l = In-range_out c 2 depth i in ap (λ (x : ℕ). steps_weight plan w c (own_steps plan c) + x) (if_false (c == 1) (start_frames_weight plan w 1) (nest_weight plan w c) (unlike c 1 (λ e. omega (arith, e, l.0))))) in
        omega (arith, all, split, same)

    by_domains : sum_by own_part (domains_of plan) ≡ start_frames_weight plan w 1 + steps_weight plan w 1 plan.steps + below (suc depth) 1 (run_seconds plan)
    by_domains =
        let first : steps_weight plan w 1 (own_steps plan 1) ≡ steps_weight plan w 1 plan.steps = ap (steps_weight plan w 1) (step_number plan.steps) in
        ap (λ (k : ℕ). sum_by own_part (up_to k)) deep
        ∙ sum_by-cons own_part 1 (range_with_len 2 depth)
        ∙ omega (arith, first, all_nests)

    done : script_weight plan w ≡ weight_by_domains plan w
    done = omega (arith, script_weighs, by_domains, own_parts)

pub weighs : ScriptsWeighByDomains
weighs plan w timed = done plan w timed (length plan.domains - 1) (let some : 1 ≤ length plan.domains = timed.some in omega (arith, some))
