-- What each entry of the script of a sound plan keeps: its domain, its time and its stream.
use Rattle.std.proofs.Common.{◌≡◌, ℕ, zero, suc, ◌+◌, ◌*◌, ◌<◌, ◌≤◌, ◌==◌, nat_lt, if◌then◌else◌, Bool, true, false, List, [], ◌∷◌, ◌++◌, length, map, All, ap, ◌∙◌, arith}
use Rattle.std.specs.Prelude.{filter, flat_map}
use Rattle.std.specs.List.{range_with_len}
use Rattle.std.proofs.Math.Nat.{mul-le-mul_right, mul_comm}
use Rattle.std.proofs.lemmas.Bool.{eqb-true, ltb-true}
use Rattle.std.proofs.lemmas.List.Elements.{All-nil, All-cons, All-append, All-map, All-weaker, All-filter, filter_passes}
use Rattle.wf_model.specs.declared.plan.Plan.{Plan}
use Rattle.wf_model.specs.declared.initial.Begin.{Begin}
use Rattle.wf_model.specs.declared.script.Act.{Act}
use Rattle.wf_model.specs.declared.script.Act.TheVariants.{Start, Force, Feedback, Table, Emit}
use Rattle.wf_model.specs.declared.script.Entry.{Entry}
use Rattle.wf_model.specs.Plans.{domain_of, begin_of, domains_of, children}
use Rattle.wf_model.specs.Script.{restart_stream, entry, starts, table, restart_frames, interval, frames_where, start_frames, starts_at, has_started_by, steps_by, is_due, step_of, script_of}
use Rattle.wf_model.specs.Sound.{IsDomain, IsSoundPlan}

-- ---- facts of all elements of a list

-- two facts of each
all_both : {A : Type 0} (P Q : A → Type 0) (xs : List A) → All P xs → All Q xs → All (λ x. P x × Q x) xs
all_both P Q xs p q = λ k d lt. (p k d lt, q k d lt)

-- of what is made of each
all_map : {A B : Type 0} (P : B → Type 0) (Q : A → Type 0) (f : A → B) (xs : List A) → ((x : A) → Q x → P (f x)) → All Q xs → All P (map f xs)
all_map P Q f xs made all = All-map P f xs (All-weaker Q (λ x. P (f x)) made xs all)

-- of the lists that are made of each
all_flat : {A B : Type 0} (P : B → Type 0) (Q : A → Type 0) (f : A → List B) (xs : List A) → ((x : A) → Q x → All P (f x)) → All Q xs → All P (flat_map f xs)
all_flat P Q f [] made all = All-nil P
all_flat P Q f (x ∷ xs) made all = All-append P (f x) (flat_map f xs) (made x (all 0 x (omega arith))) (all_flat P Q f xs made (λ k d lt. all (suc k) d (omega (arith, lt))))

-- where a test holds, or none
all_where : {A : Type 0} (P : A → Type 0) (b : Bool) (xs : List A) → All P xs → All P (if b then xs else [])
all_where P true xs all = all
all_where P false xs all = All-nil P

-- where a test fails, or none
all_unless : {A : Type 0} (P : A → Type 0) (b : Bool) (xs : List A) → All P xs → All P (if b then [] else xs)
all_unless P true xs all = All-nil P
all_unless P false xs all = all

-- one of a range of numbers
record IsAmong (a n k : ℕ) : Type 0 where
  from : a ≤ k
  below : k < a + n

all_range : (a n : ℕ) → All (IsAmong a n) (range_with_len a n)
all_range a zero = All-nil (IsAmong a zero)
all_range a (suc n) =
    All-cons (IsAmong a (suc n)) a (range_with_len (a + 1) n) (record { from = omega arith; below = omega arith })
    (All-weaker (IsAmong (a + 1) n) (IsAmong a (suc n)) (λ k h. record { from = omega (arith, h.from); below = omega (arith, h.below) }) (range_with_len (a + 1) n) (all_range (a + 1) n))

-- one part of a whole ends within it
part_within : (n ratio seconds : ℕ) → n < ratio → n * seconds + seconds ≤ ratio * seconds
part_within n ratio seconds h =
    let next : (n + 1) * seconds ≤ ratio * seconds = mul-le-mul_right seconds (omega (arith, h)) in
    omega (arith, next)

-- ---- the script

-- an entry of a domain of the plan, not after a time, whose frames are of known streams
pub record IsGoodEntry (plan : Plan) (limit : ℕ) (e : Entry) : Type 0 where
  pub domain : IsDomain plan e.domain
  pub time : e.time ≤ limit
  pub stream : (s : ℕ) → e.act ≡ Emit s → s ≤ restart_stream

module _ (plan : Plan) (begins : List Begin) (limit : ℕ) where
  abbrev Good : Entry → Type 0
  Good e = IsGoodEntry plan limit e

  -- an entry that is no frame
  quiet : (d step t : ℕ) (act : Act) → IsDomain plan d → t ≤ limit → ((s : ℕ) → act ≡ Emit s → ⊥) → Good (entry d step t act)
  quiet d step t act is le none = record { domain = is; time = le; stream = λ s e. absurd (none s e) }

  -- a frame
  frame : (d step t s : ℕ) → IsDomain plan d → t ≤ limit → s ≤ restart_stream → Good (entry d step t (Emit s))
  frame d step t s is le known = record { domain = is; time = le; stream = λ q e. let w : s ≡ q = cc (e) in omega (arith, w, known) }

  -- frames of streams 0 to 9
  good_frames : (test : ℕ → Bool) (d step t : ℕ) → IsDomain plan d → t ≤ limit → All Good (frames_where plan begins test d step t)
  good_frames test d step t is le =
      all_map Good (IsAmong 0 10) (λ s. entry d step t (Emit s)) (filter test (range_with_len 0 10)) (λ s h. frame d step t s is le (omega (arith, h.below))) (All-filter test (IsAmong 0 10) (range_with_len 0 10) (all_range 0 10))

  -- a nest of a domain
  pub record IsChild (d c : ℕ) : Type 0 where
    pub nest : 1 < c
    pub domain : IsDomain plan c
    pub parent : (domain_of plan c).parent ≡ d

  all_children : (d : ℕ) → All (IsChild d) (children plan d)
  unfolding children
  all_children d =
      let nests = filter (nat_lt 1) (domains_of plan) in
      let own = λ (c : ℕ). (domain_of plan c).parent == d in
      λ k x lt.
      let p = filter_passes own nests k x lt in
      let q = All-filter own (λ c. nat_lt 1 c ≡ true) nests (filter_passes (nat_lt 1) (domains_of plan)) k x lt in
      let in_range = All-filter own (IsAmong 1 (length plan.domains)) nests (All-filter (nat_lt 1) (IsAmong 1 (length plan.domains)) (domains_of plan) (all_range 1 (length plan.domains))) k x lt in
      record { nest = ltb-true 1 _ q; domain = (in_range.from, omega (arith, in_range.below)); parent = eqb-true _ d p }

  -- the domains of the plan, each of which is one
  all_domains : All (IsDomain plan) (domains_of plan)
  all_domains = All-weaker (IsAmong 1 (length plan.domains)) (IsDomain plan) (λ d h. (h.from, omega (arith, h.below))) (domains_of plan) (all_range 1 (length plan.domains))

  -- what the nests of a domain do in one of its steps
  abbrev nest_part : ℕ → ℕ → ℕ → ℕ → List Entry
  nest_part depth d step t = flat_map (λ c. if has_started_by plan begins c t
      then entry c (steps_by plan begins c t + 1) t Force
      ∷ (flat_map (λ n. step_of plan begins depth c (t + n * (domain_of plan c).seconds)) (range_with_len 0 (domain_of plan c).time_ratio)
      ++ (if plan.feedback then entry c step t Feedback ∷ [] else []))
      else []) (children plan d)

  module _ (sound : IsSoundPlan plan) where
    -- the starts of nests
    good_starts : (d t : ℕ) → t ≤ limit → All Good (starts plan begins d t)
    good_starts d t le = all_flat Good (IsChild d) _ (children plan d)
        (λ c is. all_where Good (starts_at plan begins c t) (entry c 0 t Start ∷ start_frames plan begins c t)
        (All-cons Good (entry c 0 t Start) (start_frames plan begins c t) (quiet c 0 t Start is.domain le (λ s e. absurd (cc (e)))) (good_frames (λ s. nat_lt 0 (interval plan begins c s)) c 0 t is.domain le)))
        (all_children d)

    -- the table
    good_table : (d step t : ℕ) → IsDomain plan d → t ≤ limit → All Good (table plan begins d step t)
    good_table d step t is le = all_map Good (IsAmong 0 (length plan.items)) (λ n. entry d step t (Table n)) (range_with_len 0 (length plan.items)) (λ n h. quiet d step t (Table n) is le (λ s e. absurd (cc (e)))) (all_range 0 (length plan.items))

    -- restart files
    good_restarts : (step t : ℕ) → t ≤ limit → All Good (restart_frames plan begins step t)
    good_restarts step t le = all_where Good (is_due plan.restart_steps step) _ (all_map Good (IsDomain plan) (λ d. entry d (steps_by plan begins d t) t (Emit restart_stream)) _
        (λ d is. frame d (steps_by plan begins d t) t restart_stream is le (omega arith)) (All-filter _ (IsDomain plan) (domains_of plan) all_domains))

    -- the steps of a nest end with its parent's
    within : (d t c n : ℕ) → IsChild d c → t + (domain_of plan d).seconds ≤ limit → n < (domain_of plan c).time_ratio → t + n * (domain_of plan c).seconds + (domain_of plan c).seconds ≤ limit
    within d t c n child le lt =
        let whole : (domain_of plan c).seconds * (domain_of plan c).time_ratio ≡ (domain_of plan d).seconds = (sound.nests c child.nest child.domain).seconds ∙ ap (λ (p : ℕ). (domain_of plan p).seconds) child.parent in
        omega (arith, part_within n (domain_of plan c).time_ratio (domain_of plan c).seconds lt, mul_comm (domain_of plan c).seconds (domain_of plan c).time_ratio, whole, le)

    -- all of a step, which ends not after the limit
    good_step : (depth d t : ℕ) → IsDomain plan d → t + (domain_of plan d).seconds ≤ limit → All Good (step_of plan begins depth d t)
    unfolding step_of
    good_step zero d t is le = All-nil Good
    good_step (suc depth) d t is le =
        let step = steps_by plan begins d t + 1 in
        let end = t + (domain_of plan d).seconds in
        let now : t ≤ limit = omega (arith, le) in
        let nests : All Good (nest_part depth d step t) = all_flat Good (IsChild d) _ (children plan d)
        (λ c child. all_where Good (has_started_by plan begins c t) _
        (All-cons Good (entry c (steps_by plan begins c t + 1) t Force) _ (quiet c (steps_by plan begins c t + 1) t Force child.domain now (λ s e. absurd (cc (e))))
        (All-append Good _ _
        (all_flat Good (IsAmong 0 (domain_of plan c).time_ratio) _ (range_with_len 0 (domain_of plan c).time_ratio)
        (λ n h. good_step depth c (t + n * (domain_of plan c).seconds) child.domain (within d t c n child le (omega (arith, h.below))))
        (all_range 0 (domain_of plan c).time_ratio))
        (all_where Good plan.feedback _ (All-cons Good (entry c step t Feedback) [] (quiet c step t Feedback child.domain now (λ s e. absurd (cc (e)))) (All-nil Good))))))
        (all_children d) in
        All-append Good _ _ (All-append Good _ _ (All-append Good _ _ (All-append Good _ _
        (good_starts d t now) (good_table d step t is now)) nests)
        (good_frames (λ s. is_due (interval plan begins d s) step) d step end is le))
        (all_where Good (d == 1) _ (good_restarts step end le))

-- each entry of the script of a sound plan
pub good_script : (plan : Plan) (begins : List Begin) → IsSoundPlan plan → All (IsGoodEntry plan (plan.steps * (domain_of plan 1).seconds)) (script_of plan begins)
unfolding script_of
good_script plan begins sound =
    let limit = plan.steps * (domain_of plan 1).seconds in
    let one : IsDomain plan 1 = (omega arith, sound.some) in
    All-append (IsGoodEntry plan limit) _ _
    (all_unless (IsGoodEntry plan limit) (begin_of begins 1).resumed _ (good_frames plan begins limit (λ s. nat_lt 0 (interval plan begins 1 s)) 1 0 0 one (omega arith)))
    (all_flat (IsGoodEntry plan limit) (IsAmong 0 plan.steps) (λ n. step_of plan begins (length plan.domains) 1 (n * (domain_of plan 1).seconds)) (range_with_len 0 plan.steps)
    (λ n h. good_step plan begins limit sound (length plan.domains) 1 (n * (domain_of plan 1).seconds) one (part_within n plan.steps (domain_of plan 1).seconds (omega (arith, h.below)))) (all_range 0 plan.steps))
