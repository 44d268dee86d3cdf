-- The steps of a run that goes on are those of the other run, with later times.
use Rattle.std.proofs.Common.{◌≡◌, inl, inr, ℕ, zero, suc, ◌+◌, ◌-◌, ◌*◌, ◌≤◌, ◌<◌, Bool, true, false, cond, List, [], ◌∷◌, ◌++◌, map, length, refl, sym, ap, ◌∙◌, subst, arith}
use Rattle.std.proofs.lemmas.Bool.{cases_lt}
use Rattle.std.proofs.lemmas.Bool.Decides.{nat_tests}
use Rattle.std.specs.Prelude.{◌==◌, ◌||◌, nat_lt, filter, flat_map, slice_index, if◌then◌else◌}
use Rattle.std.specs.List.{range_with_len}
use Rattle.wf_model.specs.declared.initial.Begin.{Begin}
use Rattle.wf_model.specs.declared.plan.Domain.{Domain}
use Rattle.wf_model.specs.declared.plan.Plan.{Plan}
use Rattle.wf_model.specs.declared.script.Act.TheVariants.{Start, Force, Feedback, Table, Emit}
use Rattle.wf_model.specs.declared.script.Entry.{Entry}
use Rattle.wf_model.specs.Plans.{domain_of, begin_of, domains_of, children, up_to}
use Rattle.wf_model.specs.Script.{entry, interval, is_due, restart_stream, not_before, begin_time, steps_by, starts_at, has_started_by, start_frames, due_frames, starts, table, restart_frames, step_of, script_of}
use Rattle.wf_model.specs.Outcome.{RunData}
use Rattle.wf_model.specs.Sound.{IsDomain}
use Rattle.wf_model.specs.SoundRun.{IsSoundRun}
use Rattle.wf_laws.proofs.Bools.{split_bool, equal_of}
use Rattle.wf_laws.proofs.Members.{In, In-range_out, In-filter_out, flat_map-same}
use Rattle.wf_laws.proofs.ScriptTurns.{IsChild, child_of}
use Rattle.wf_model.specs.Continued.{time_after, first_steps, goes_on, IsContinuedBy}
use Rattle.wf_restart_laws.specs.Shifted.{later_by, step_entries, AreAlike, HasSameTimes, has_begun_by, StepsAreShifted, ScriptsAreShifted}
use Rattle.wf_restart_laws.proofs.Scripts.{split}
use Rattle.wf_restart_laws.proofs.SameTimes.{alike, same_times, goes, some_time}

-- ---- lists

pub map-append : {X Y : Type 0} (f : X → Y) (xs ys : List X) → map f (xs ++ ys) ≡ map f xs ++ map f ys
map-append f [] ys = refl
map-append f (x ∷ xs) ys = ap (λ (zs : List _). f x ∷ zs) (map-append f xs ys)

pub map-map : {X Y Z : Type 0} (f : Y → Z) (g : X → Y) (xs : List X) → map f (map g xs) ≡ map (λ x. f (g x)) xs
map-map f g [] = refl
map-map f g (x ∷ xs) = ap (λ (zs : List _). f (g x) ∷ zs) (map-map f g xs)

pub map-same : {X Y : Type 0} (f g : X → Y) (xs : List X) → ((x : X) → In x xs → f x ≡ g x) → map f xs ≡ map g xs
map-same f g [] h = refl
map-same f g (x ∷ xs) h = λ i. h x (inl refl) i ∷ map-same f g xs (λ y m. h y (inr m)) i

pub filter-same : {X : Type 0} (p q : X → Bool) (xs : List X) → ((x : X) → In x xs → p x ≡ q x) → filter p xs ≡ filter q xs
filter-same p q [] h = refl
filter-same p q (x ∷ xs) h = λ i. cond (h x (inl refl) i) (x ∷ filter-same p q xs (λ y m. h y (inr m)) i) (filter-same p q xs (λ y m. h y (inr m)) i)

pub map-flat_map : {X Y Z : Type 0} (f : Y → Z) (g : X → List Y) (xs : List X) → map f (flat_map g xs) ≡ flat_map (λ x. map f (g x)) xs
map-flat_map f g [] = refl
map-flat_map f g (x ∷ xs) = map-append f (g x) (flat_map g xs) ∙ ap (λ (zs : List _). map f (g x) ++ zs) (map-flat_map f g xs)

map-if : {X Y : Type 0} (f : X → Y) (b : Bool) (xs : List X) → map f (if b then xs else []) ≡ (if b then map f xs else [])
map-if f true xs = refl
map-if f false xs = refl

-- ---- numbers

in_steps : (n k sc ra sd : ℕ) → sc * ra ≡ sd → n * sd + k * sc ≡ (n * ra + k) * sc
in_steps n k sc ra sd e = ap (λ x. n * x + k * sc) (sym e) ∙ grind arith

whole_steps : (n sc ra sd : ℕ) → sc * ra ≡ sd → n * sd ≡ (n * ra) * sc
whole_steps n sc ra sd e = ap (λ x. n * x) (sym e) ∙ grind arith

swap_last : (a b c : ℕ) → a + b + c ≡ a + c + b
swap_last a b c = omega arith

times_times : (a b c : ℕ) → a * (b * c) ≡ (a * b) * c
times_times a b c = grind arith

module _ (r s : RunData) (m : ℕ) (sound : IsSoundRun r) (some : 1 ≤ m) (within : m ≤ r.plan.steps) (is : IsContinuedBy r m s) where
  abbrev p : Plan
  p = r.plan

  abbrev q : Plan
  q = s.plan

  abbrev b : List Begin
  b = r.initial.begins

  abbrev c : List Begin
  c = s.initial.begins

  abbrev T : ℕ
  T = time_after r m

  abbrev L : Entry → Entry
  L = later_by T

  same : AreAlike p q
  same = alike r s m is

  times : (d n : ℕ) → IsDomain p d → HasSameTimes r m s d (n * (domain_of p d).seconds)
  times d n dom = same_times r s m d n sound some within is dom

  -- the same at a time that is a whole number of its steps
  times_at : (d t n : ℕ) → IsDomain p d → t ≡ n * (domain_of p d).seconds → HasSameTimes r m s d t
  times_at d t n dom e = subst (λ x. HasSameTimes r m s d x) (sym e) (times d n dom)

  children_are : (d : ℕ) → children q d ≡ children p d
  unfolding children
  children_are d = λ i. filter (λ x. ap (λ (y : Domain). y.parent) (same.domains x) i == d) (filter (nat_lt 1) (up_to (same.count i)))

  seconds_are : (d : ℕ) → (domain_of q d).seconds ≡ (domain_of p d).seconds
  seconds_are d = ap (λ (x : Domain). x.seconds) (same.domains d)

  ratio_is : (d : ℕ) → (domain_of q d).time_ratio ≡ (domain_of p d).time_ratio
  ratio_is d = ap (λ (x : Domain). x.time_ratio) (same.domains d)

  interval_is : (d stream : ℕ) → interval q c d stream ≡ interval p b d stream
  interval_is d stream = ap (λ (x : Domain). slice_index x.intervals stream) (same.domains d)

  -- frames of streams
  start_frames_are : (d t : ℕ) → start_frames p b d (t + T) ≡ map L (start_frames q c d t)
  start_frames_are d t =
      sym (map-map L (λ x. entry d 0 t (Emit x)) (filter (λ x. nat_lt 0 (interval q c d x)) (range_with_len 0 10))
      ∙ (λ i. map (λ x. entry d 0 (t + T) (Emit x)) (filter (λ x. nat_lt 0 (interval_is d x i)) (range_with_len 0 10))))

  due_frames_are : (d step t : ℕ) → due_frames p b d step (t + T) ≡ map L (due_frames q c d step t)
  due_frames_are d step t =
      sym (map-map L (λ x. entry d step t (Emit x)) (filter (λ x. is_due (interval q c d x) step) (range_with_len 0 10))
      ∙ (λ i. map (λ x. entry d step (t + T) (Emit x)) (filter (λ x. is_due (interval_is d x i) step) (range_with_len 0 10))))

  table_is : (d step t : ℕ) → table p b d step (t + T) ≡ map L (table q c d step t)
  table_is d step t =
      sym (map-map L (λ n. entry d step t (Table n)) (range_with_len 0 (length q.items)) ∙ (λ i. map (λ n. entry d step (t + T) (Table n)) (range_with_len 0 (length (same.items i)))))

  -- a nest's steps lie in its parent's
  nest_seconds : (d x : ℕ) → IsChild p d x → (domain_of p x).seconds * (domain_of p x).time_ratio ≡ (domain_of p d).seconds
  nest_seconds d x k = ((sound.sound).nests x k.nest k.domain).seconds ∙ ap (λ y. (domain_of p y).seconds) k.parent

  -- nests that start
  starts_are : (d n : ℕ) → starts p b d (n * (domain_of p d).seconds + T) ≡ map L (starts q c d (n * (domain_of p d).seconds))
  starts_are d n =
      let t : ℕ = n * (domain_of p d).seconds in
      sym (map-flat_map L (λ x. if starts_at q c x t then entry x 0 t Start ∷ start_frames q c x t else []) (children q d)
      ∙ ap (flat_map (λ x. map L (if starts_at q c x t then entry x 0 t Start ∷ start_frames q c x t else []))) (children_are d)
      ∙ flat_map-same _ (λ x. if starts_at p b x (t + T) then entry x 0 (t + T) Start ∷ start_frames p b x (t + T) else []) (children p d)
      (λ x i. let k : IsChild p d x = child_of p d x i in
      map-if L (starts_at q c x t) (entry x 0 t Start ∷ start_frames q c x t)
      ∙ (λ j. if (times_at x t (n * (domain_of p x).time_ratio) k.domain (whole_steps n (domain_of p x).seconds (domain_of p x).time_ratio (domain_of p d).seconds (nest_seconds d x k))).starts j
      then entry x 0 (t + T) Start ∷ sym (start_frames_are x t) j else [])))

  -- domain 1's steps are a whole number of each domain's
  record IsWhole (d : ℕ) : Type 0 where
    steps : ℕ
    fill : (domain_of p 1).seconds ≡ steps * (domain_of p d).seconds

  whole : (fuel d : ℕ) → d ≤ fuel → IsDomain p d → IsWhole d
  whole zero d le dom = absurd (omega (arith, le, dom.0))
  whole (suc fuel) d le dom = elim (cases_lt 1 d) [
    | inl nest ↦
        let k : IsChild p (domain_of p d).parent d = record { domain = dom; nest = nest; parent = refl } in
        let sn = (sound.sound).nests d nest dom in
        let up : IsWhole (domain_of p d).parent = whole fuel (domain_of p d).parent (omega (arith, sn.before, le)) sn.parent in
        record {
          steps = up.steps * (domain_of p d).time_ratio;
          fill = up.fill ∙ whole_steps up.steps (domain_of p d).seconds (domain_of p d).time_ratio (domain_of p (domain_of p d).parent).seconds (nest_seconds (domain_of p d).parent d k);
        }
    | inr first ↦ let one : 1 ≡ d = omega (arith, first, dom.0) in record { steps = 1; fill = ap (λ x. (domain_of p x).seconds) one ∙ once (domain_of p d).seconds }
  ]
    where
      once : (n : ℕ) → n ≡ 1 * n
      once n = omega arith

  -- restart frames
  restarts_are : (n step : ℕ) → restart_frames p b step (n * (domain_of p 1).seconds + T) ≡ map L (restart_frames q c step (n * (domain_of p 1).seconds))
  restarts_are n step =
      let t : ℕ = n * (domain_of p 1).seconds in
      sym (map-if L (is_due q.restart_steps step) (map (λ d. entry d (steps_by q c d t) t (Emit restart_stream)) (filter (λ d. (begin_of c d).resumed || nat_lt (begin_time q c d) t) (domains_of q)))
      ∙ (λ i. if is_due (same.restart_steps i) step then map L (map (λ d. entry d (steps_by q c d t) t (Emit restart_stream)) (filter (λ d. has_begun_by q c d t) (up_to (same.count i)))) else [])
      ∙ ap (λ (xs : List Entry). if is_due p.restart_steps step then xs else [])
      (map-map L (λ d. entry d (steps_by q c d t) t (Emit restart_stream)) (filter (λ d. has_begun_by q c d t) (domains_of p))
      ∙ ap (map (λ d. entry d (steps_by q c d t) (t + T) (Emit restart_stream))) (filter-same (λ d. has_begun_by q c d t) (λ d. has_begun_by p b d (t + T)) (domains_of p) (λ d i. (here n d (in_domains d i)).begun))
      ∙ map-same (λ d. entry d (steps_by q c d t) (t + T) (Emit restart_stream)) (λ d. entry d (steps_by p b d (t + T)) (t + T) (Emit restart_stream)) (filter (λ d. has_begun_by p b d (t + T)) (domains_of p))
      (λ d i. ap (λ x. entry d x (t + T) (Emit restart_stream)) (here n d (in_domains d (In-filter_out (λ x. has_begun_by p b x (t + T)) d (domains_of p) i).0)).steps)))
    where
      in_domains : (d : ℕ) → In d (domains_of p) → IsDomain p d
      in_domains d i = let l = In-range_out d 1 _ i in (l.0, omega (arith, l.1))

      here : (n d : ℕ) → IsDomain p d → HasSameTimes r m s d (n * (domain_of p 1).seconds)
      here n d dom =
          let w : IsWhole d = whole d d (omega arith) dom in
          times_at d (n * (domain_of p 1).seconds) (n * w.steps) dom (ap (λ x. n * x) w.fill ∙ times_times n w.steps (domain_of p d).seconds)

  -- five parts
  five : (x y z u v : List Entry) → map L ((((x ++ y) ++ z) ++ u) ++ v) ≡ (((map L x ++ map L y) ++ map L z) ++ map L u) ++ map L v
  five x y z u v =
      map-append L (((x ++ y) ++ z) ++ u) v
      ∙ ap (λ (w : List Entry). w ++ map L v)
      (map-append L ((x ++ y) ++ z) u ∙ ap (λ (w : List Entry). w ++ map L u) (map-append L (x ++ y) z ∙ ap (λ (w : List Entry). w ++ map L z) (map-append L x y)))

  -- what a domain's step is to be
  abbrev AtDepth : ℕ → Type 0
  AtDepth depth = (d n : ℕ) → IsDomain p d → step_of p b depth d (n * (domain_of p d).seconds + T) ≡ map L (step_of q c depth d (n * (domain_of p d).seconds))

  -- a nest's part in a step
  abbrev part : Plan → List Begin → ℕ → ℕ → ℕ → ℕ → List Entry
  part plan begins depth step t x =
      if has_started_by plan begins x t
      then entry x (steps_by plan begins x t + 1) t Force
      ∷ (flat_map (λ n. step_of plan begins depth x (t + n * (domain_of plan x).seconds)) (range_with_len 0 (domain_of plan x).time_ratio)
      ++ (if plan.feedback then entry x step t Feedback ∷ [] else []))
      else []

  part_is : (depth : ℕ) → AtDepth depth → (d n step x : ℕ) → IsChild p d x → part p b depth step (n * (domain_of p d).seconds + T) x ≡ map L (part q c depth step (n * (domain_of p d).seconds) x)
  part_is depth deep d n step x k =
      let t : ℕ = n * (domain_of p d).seconds in
      let own : ℕ = n * (domain_of p x).time_ratio in
      let at : HasSameTimes r m s x t = times_at x t own k.domain (whole_steps n (domain_of p x).seconds (domain_of p x).time_ratio (domain_of p d).seconds (nest_seconds d x k)) in
      let back : List Entry = if q.feedback then entry x step t Feedback ∷ [] else [] in
      let steps : List Entry = flat_map (λ j. step_of q c depth x (t + j * (domain_of q x).seconds)) (range_with_len 0 (domain_of q x).time_ratio) in
      sym (map-if L (has_started_by q c x t) (entry x (steps_by q c x t + 1) t Force ∷ (steps ++ back))
      ∙ (λ i. if at.has_started i then entry x (at.steps i + 1) (t + T) Force ∷ (
      (map-append L steps back
      ∙ (λ j. (map-flat_map L (λ l. step_of q c depth x (t + l * (domain_of q x).seconds)) (range_with_len 0 (domain_of q x).time_ratio)
      ∙ ap (λ y. flat_map (λ l. map L (step_of q c depth x (t + l * (domain_of q x).seconds))) (range_with_len 0 y)) (ratio_is x)
      ∙ flat_map-same (λ l. map L (step_of q c depth x (t + l * (domain_of q x).seconds))) (λ l. step_of p b depth x (t + T + l * (domain_of p x).seconds)) (range_with_len 0 (domain_of p x).time_ratio) (λ l w. one l)) j
      ++ (map-if L q.feedback (entry x step t Feedback ∷ []) ∙ (λ y. if same.feedback y then entry x step (t + T) Feedback ∷ [] else [])) j)) i) else []))
    where
      one : (l : ℕ) → map L (step_of q c depth x (n * (domain_of p d).seconds + l * (domain_of q x).seconds)) ≡ step_of p b depth x (n * (domain_of p d).seconds + T + l * (domain_of p x).seconds)
      one l =
          let sum : n * (domain_of p d).seconds + l * (domain_of p x).seconds ≡ (n * (domain_of p x).time_ratio + l) * (domain_of p x).seconds
          = in_steps n l (domain_of p x).seconds (domain_of p x).time_ratio (domain_of p d).seconds (nest_seconds d x k) in
          ap (λ y. map L (step_of q c depth x (n * (domain_of p d).seconds + l * y))) (seconds_are x)
          ∙ ap (λ y. map L (step_of q c depth x y)) sum
          ∙ sym (deep x (n * (domain_of p x).time_ratio + l) k.domain)
          ∙ ap (λ y. step_of p b depth x (y + T)) (sym sum)
          ∙ ap (step_of p b depth x) (swap_last (n * (domain_of p d).seconds) (l * (domain_of p x).seconds) T)

  step_is : (depth : ℕ) → AtDepth depth
  unfolding step_of
  step_is zero d n dom = refl
  step_is (suc depth) d n dom =
      let t : ℕ = n * (domain_of p d).seconds in
      let at : HasSameTimes r m s d t = times d n dom in
      let step : ℕ = steps_by q c d t + 1 in
      let nests : List Entry = flat_map (part q c depth step t) (children q d) in
      let last : List Entry = if d == 1 then restart_frames q c step (t + (domain_of q d).seconds) else [] in
      let nests_are : flat_map (part p b depth step (t + T)) (children p d) ≡ map L nests
      = sym (map-flat_map L (part q c depth step t) (children q d)
      ∙ ap (flat_map (λ x. map L (part q c depth step t x))) (children_are d)
      ∙ flat_map-same (λ x. map L (part q c depth step t x)) (part p b depth step (t + T)) (children p d) (λ x i. sym (part_is depth (step_is depth) d n step x (child_of p d x i)))) in
      let due_are : due_frames p b d step (t + T + (domain_of p d).seconds) ≡ map L (due_frames q c d step (t + (domain_of q d).seconds))
      = ap (due_frames p b d step) (swap_last t T (domain_of p d).seconds)
      ∙ due_frames_are d step (t + (domain_of p d).seconds)
      ∙ ap (λ y. map L (due_frames q c d step (t + y))) (sym (seconds_are d)) in
      ap (λ x. (((starts p b d (t + T) ++ table p b d (x + 1) (t + T)) ++ flat_map (part p b depth (x + 1) (t + T)) (children p d)) ++ due_frames p b d (x + 1) (t + T + (domain_of p d).seconds))
      ++ (if d == 1 then restart_frames p b (x + 1) (t + T + (domain_of p d).seconds) else [])) (sym at.steps)
      ∙ (λ i. (((starts_are d n i ++ table_is d step t i) ++ nests_are i) ++ due_are i) ++ last_is d n step i)
      ∙ sym (five (starts q c d t) (table q c d step t) nests (due_frames q c d step (t + (domain_of q d).seconds)) last)
    where
      more : (n sec : ℕ) → n * sec + sec ≡ (n + 1) * sec
      more n sec = grind arith

      last_is : (d n step : ℕ) → (if d == 1 then restart_frames p b step (n * (domain_of p d).seconds + T + (domain_of p d).seconds) else []) ≡ map L (if d == 1 then restart_frames q c step (n * (domain_of p d).seconds + (domain_of q d).seconds) else [])
      last_is d n step = elim (split_bool (d == 1)) [
        | inl e ↦
            let first : d ≡ 1 = equal_of d 1 e in
            (λ i. if e i then restart_frames p b step (n * (domain_of p (first i)).seconds + T + (domain_of p (first i)).seconds) else [])
            ∙ ap (restart_frames p b step) (swap_last (n * (domain_of p 1).seconds) T (domain_of p 1).seconds ∙ ap (λ y. y + T) (more n (domain_of p 1).seconds))
            ∙ restarts_are (n + 1) step
            ∙ ap (λ y. map L (restart_frames q c step y)) (sym (ap (λ y. n * (domain_of p 1).seconds + y) (seconds_are 1) ∙ more n (domain_of p 1).seconds))
            ∙ sym (λ i. map L (if e i then restart_frames q c step (n * (domain_of p (first i)).seconds + (domain_of q (first i)).seconds) else []))
        | inr e ↦ (λ i. if e i then restart_frames p b step (n * (domain_of p d).seconds + T + (domain_of p d).seconds) else []) ∙ sym (λ i. map L (if e i then restart_frames q c step (n * (domain_of p d).seconds + (domain_of q d).seconds) else []))
      ]

pub steps_are : StepsAreShifted
steps_are r s m depth d n sound some within is dom = step_is r s m sound some within is depth d n dom

above : (a b : ℕ) → a < b → nat_lt a b ≡ true
above a b h = grind (arith, nat_tests)

-- domain 1 goes on
pub first_goes : (r : RunData) (m : ℕ) → IsSoundRun r → 1 ≤ m → goes_on r m 1 ≡ true
first_goes r m sound some =
    let nb : not_before (domain_of r.plan 1).begins ≡ 0 = ap not_before ((sound.ranged).first).begins in
    let sec : 1 ≤ (domain_of r.plan 1).seconds = (sound.sound).steps 1 (omega arith, (sound.sound).some) in
    on (begin_of r.initial.begins 1).resumed (not_before (domain_of r.plan 1).begins) (time_after r m) nb (some_time m (domain_of r.plan 1).seconds some sec)
  where
    on : (res : Bool) (nb t : ℕ) → nb ≡ 0 → 1 ≤ t → (res || nat_lt (if res then 0 else nb) t) ≡ true
    on true nb t e h = refl
    on false nb t e h = above nb t (omega (arith, e, h))

pub scripts_are : ScriptsAreShifted
unfolding script_of
scripts_are r s m sound some within is =
    let T : ℕ = time_after r m in
    let one : IsDomain r.plan 1 = (omega arith, (sound.sound).some) in
    let resumed : (begin_of s.initial.begins 1).resumed ≡ true = ap (λ (x : Begin). x.resumed) (goes r s m 1 is one (first_goes r m sound some)) in
    let rest : flat_map (λ n. step_entries r (m + n)) (range_with_len 0 (r.plan.steps - m)) ≡ map (later_by T) (flat_map (step_entries s) (range_with_len 0 s.plan.steps))
    = sym (map-flat_map (later_by T) (step_entries s) (range_with_len 0 s.plan.steps)
    ∙ ap (λ k. flat_map (λ n. map (later_by T) (step_entries s n)) (range_with_len 0 k)) (ap (λ (x : Plan). x.steps) is.plan.same)
    ∙ flat_map-same (λ n. map (later_by T) (step_entries s n)) (λ n. step_entries r (m + n)) (range_with_len 0 (r.plan.steps - m)) (λ n i. step r s m n is (steps_are r s m (length r.plan.domains) 1 n sound some within is one))) in
    split r m within
    ∙ ap (λ (xs : List Entry). first_steps r m ++ xs) rest
    ∙ sym (λ i. first_steps r m ++ map (later_by T) ((if resumed i then [] else start_frames s.plan s.initial.begins 1 0) ++ flat_map (step_entries s) (range_with_len 0 s.plan.steps)))
  where
    added : (m n sec : ℕ) → n * sec + m * sec ≡ (m + n) * sec
    added m n sec = grind arith

    step : (r s : RunData) (m n : ℕ) → IsContinuedBy r m s →
        step_of r.plan r.initial.begins (length r.plan.domains) 1 (n * (domain_of r.plan 1).seconds + time_after r m) ≡ map (later_by (time_after r m)) (step_of s.plan s.initial.begins (length r.plan.domains) 1 (n * (domain_of r.plan 1).seconds)) →
        map (later_by (time_after r m)) (step_entries s n) ≡ step_entries r (m + n)
    step r s m n is e =
        (λ i. map (later_by (time_after r m)) (step_of s.plan s.initial.begins (is.plan.count i) 1 (n * ap (λ (x : Domain). x.seconds) ((alike r s m is).domains 1) i)))
        ∙ sym e
        ∙ ap (step_of r.plan r.initial.begins (length r.plan.domains) 1) (added m n (domain_of r.plan 1).seconds)
