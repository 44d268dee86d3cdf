-- The times of a domain in a run that goes on.
use Rattle.std.proofs.Common.{◌≡◌, inl, inr, ℕ, zero, suc, ◌+◌, ◌-◌, ◌*◌, ◌/◌, ◌%◌, ◌≤◌, ◌<◌, Bool, true, false, length, get_or, ℤ, pos, negsuc, ◌+ℤ◌, refl, sym, ap, ◌∙◌, subst, arith}
use Rattle.std.proofs.lemmas.Bool.{cases_lt}
use Rattle.std.proofs.lemmas.Bool.Decides.{nat_tests}
use Rattle.std.proofs.lemmas.Nat.{div-mul-add}
use Rattle.std.proofs.lemmas.List.{get_or_past}
use Rattle.std.proofs.lemmas.List.FromFn.{get_or-map-range_with_len}
use Rattle.std.specs.Prelude.{◌||◌, ◌==◌, ◌&&◌, not, nat_lt, nat_le, if◌then◌else◌}
use Rattle.wf_model.specs.declared.initial.Begin.{Begin}
use Rattle.wf_model.specs.declared.plan.Domain.{Domain}
use Rattle.wf_model.specs.declared.plan.Plan.{Plan}
use Rattle.wf_model.specs.Plans.{domain_of, begin_of, no_domain, no_begin}
use Rattle.wf_model.specs.Script.{not_before, begin_time}
use Rattle.wf_model.specs.Outcome.{RunData}
use Rattle.wf_model.specs.Sound.{IsDomain}
use Rattle.wf_model.specs.SoundRun.{IsSoundRun}
use Rattle.wf_laws.proofs.Bools.{split_bool, differ, if_true, if_false}
use Rattle.wf_model.specs.Continued.{time_after, goes_on, steps_after, begin_after, initial_after, IsContinuedBy, IsSameDomain}
use Rattle.wf_restart_laws.specs.Shifted.{ContinuedPlansAreAlike, HasSameTimes, DomainsHaveTheSameTimes}

-- ---- plans

-- a domain of one plan is that of the other
same_domain : (r s : RunData) (m : ℕ) → IsContinuedBy r m s → (d : ℕ) → IsSameDomain (domain_of r.plan d) (domain_of s.plan d)
unfolding domain_of
same_domain r s m is zero = elim (cases_lt 0 (length r.plan.domains)) [
  | inl lt ↦ is.plan.domains 1 (omega arith, omega (arith, lt))
  | inr none ↦ past r s m is 0 (omega (arith, none))
]
  where
    past : (r s : RunData) (m : ℕ) → IsContinuedBy r m s → (n : ℕ) → length r.plan.domains ≤ n → IsSameDomain (get_or r.plan.domains n no_domain) (get_or s.plan.domains n no_domain)
    past r s m is n le =
        let here : get_or r.plan.domains n no_domain ≡ no_domain = get_or_past r.plan.domains n no_domain le in
        let there : get_or s.plan.domains n no_domain ≡ no_domain = get_or_past s.plan.domains n no_domain (omega (arith, le, is.plan.count)) in
        subst (λ (x : Domain). IsSameDomain x (get_or s.plan.domains n no_domain)) (sym here) (subst (λ (y : Domain). IsSameDomain no_domain y) (sym there) refl)
same_domain r s m is (suc d) = elim (cases_lt d (length r.plan.domains)) [
  | inl lt ↦ is.plan.domains (suc d) (omega arith, omega (arith, lt))
  | inr none ↦ past r s m is (suc d - 1) (omega (arith, none))
]
  where
    past : (r s : RunData) (m : ℕ) → IsContinuedBy r m s → (n : ℕ) → length r.plan.domains ≤ n → IsSameDomain (get_or r.plan.domains n no_domain) (get_or s.plan.domains n no_domain)
    past r s m is n le =
        let here : get_or r.plan.domains n no_domain ≡ no_domain = get_or_past r.plan.domains n no_domain le in
        let there : get_or s.plan.domains n no_domain ≡ no_domain = get_or_past s.plan.domains n no_domain (omega (arith, le, is.plan.count)) in
        subst (λ (x : Domain). IsSameDomain x (get_or s.plan.domains n no_domain)) (sym here) (subst (λ (y : Domain). IsSameDomain no_domain y) (sym there) refl)

pub alike : ContinuedPlansAreAlike
alike r s m is = record {
  count = is.plan.count;
  domains = same_domain r s m is;
  fields = ap (λ (p : Plan). p.fields) is.plan.same;
  items = ap (λ (p : Plan). p.items) is.plan.same;
  feedback = ap (λ (p : Plan). p.feedback) is.plan.same;
  bdy_width = ap (λ (p : Plan). p.bdy_width) is.plan.same;
  restart_steps = ap (λ (p : Plan). p.restart_steps) is.plan.same;
}

-- ---- begins

-- how a domain begins
pub begin_is : (r s : RunData) (m d : ℕ) → IsContinuedBy r m s → IsDomain r.plan d → begin_of s.initial.begins d ≡ begin_after r m d
unfolding begin_of initial_after
begin_is r s m d is dom =
    ap (λ x. get_or x.begins (d - 1) no_begin) is.initial
    ∙ get_or-map-range_with_len (begin_after r m) 1 (length r.plan.domains) (d - 1) d no_begin (omega (arith, dom)) (omega (arith, dom))

-- a domain that goes on
pub goes : (r s : RunData) (m d : ℕ) → IsContinuedBy r m s → IsDomain r.plan d → goes_on r m d ≡ true →
    begin_of s.initial.begins d ≡ record { steps = steps_after r m d; start_text = (begin_of r.initial.begins d).start_text; resumed = true }
unfolding begin_after
goes r s m d is dom on =
    begin_is r s m d is dom
    ∙ if_true (goes_on r m d) (record { steps = steps_after r m d; start_text = (begin_of r.initial.begins d).start_text; resumed = true }) (begin_of r.initial.begins d) on

-- and one that waits
pub waits : (r s : RunData) (m d : ℕ) → IsContinuedBy r m s → IsDomain r.plan d → goes_on r m d ≡ false → begin_of s.initial.begins d ≡ begin_of r.initial.begins d
unfolding begin_after
waits r s m d is dom on =
    begin_is r s m d is dom
    ∙ if_false (goes_on r m d) (record { steps = steps_after r m d; start_text = (begin_of r.initial.begins d).start_text; resumed = true }) (begin_of r.initial.begins d) on

-- ---- numbers

-- so many steps more
pub more_steps : (x sec n : ℕ) → 1 ≤ sec → (n * sec + x) / sec ≡ n + x / sec
more_steps x sec n h =
    let rest : x % sec < sec = omega (arith, h) in
    let whole : n * sec + x ≡ (n + x / sec) * sec + x % sec = grind arith in
    ap (λ k. k / sec) whole ∙ div-mul-add (n + x / sec) sec (x % sec) rest

on_steps : (x sec n t b : ℕ) → 1 ≤ sec → b ≤ t → x + (t - b) / sec + (n * sec - 0) / sec ≡ x + (n * sec + t - b) / sec
on_steps x sec n t b h le =
    let one : (n * sec + (t - b)) / sec ≡ n + (t - b) / sec = more_steps (t - b) sec n h in
    let two : (n * sec + 0) / sec ≡ n + 0 / sec = more_steps 0 sec n h in
    let none : 0 / sec ≡ 0 = omega (arith, h) in
    let same : n * sec + t - b ≡ n * sec + (t - b) = omega (arith, le) in
    let zero_off : n * sec - 0 ≡ n * sec + 0 = omega arith in
    omega (arith, one, two, none, ap (λ k. k / sec) same, ap (λ k. k / sec) zero_off)

-- a start that is so much sooner
pub sooner : (x y : ℤ) (t : ℕ) → x +ℤ pos t ≡ y → 1 ≤ t → t ≤ not_before y → not_before x + t ≡ not_before y
sooner (pos a) y t e some le = ap not_before e
sooner (negsuc a) (pos b) t e some le = grind arith
sooner (negsuc a) (negsuc b) t e some le = absurd (omega (arith, some, le))

-- ---- the times of a domain

-- the steps of a domain that begins so
abbrev steps_from : Begin → ℕ → ℕ → ℕ → ℕ
steps_from b sec nb t = b.steps + (t - (if b.resumed then 0 else nb)) / sec

abbrev starts_from : Begin → ℕ → ℕ → Bool
starts_from b nb t = not b.resumed && ((if b.resumed then 0 else nb) == t)

abbrev begun_from : Begin → ℕ → ℕ → Bool
begun_from b nb t = b.resumed || nat_lt (if b.resumed then 0 else nb) t

abbrev started_from : Begin → ℕ → ℕ → Bool
started_from b nb t = b.resumed || nat_le (if b.resumed then 0 else nb) t

no_start : (res : Bool) (bt t n : ℕ) → (res || nat_lt bt t) ≡ true → (not res && (bt == n + t)) ≡ false
no_start true bt t n h = refl
no_start false bt t n h = grind (arith, nat_tests)

has_start : (res : Bool) (bt t n : ℕ) → (res || nat_lt bt t) ≡ true → (res || nat_le bt (n + t)) ≡ true
has_start true bt t n h = refl
has_start false bt t n h = grind (arith, nat_tests)

not_resumed : (res b : Bool) → (res || b) ≡ false → res ≡ false
not_resumed true b h = h
not_resumed false b h = refl

not_begun : (res b : Bool) → (res || b) ≡ false → b ≡ false
not_begun true b h = absurd (differ h)
not_begun false b h = h

has_begun : (res : Bool) (bt t n : ℕ) → (res || nat_lt bt t) ≡ true → (res || nat_lt bt (n + t)) ≡ true
has_begun true bt t n h = refl
has_begun false bt t n h = grind (arith, nat_tests)

at_or_past : (a b : ℕ) → nat_lt a b ≡ false → b ≤ a
at_or_past a b h = grind (arith, nat_tests)

begun_before : (res : Bool) (nb t : ℕ) → (res || nat_lt (if res then 0 else nb) t) ≡ true → (if res then 0 else nb) ≤ t
begun_before true nb t h = omega arith
begun_before false nb t h = grind (arith, nat_tests)

pub some_time : (a b : ℕ) → 1 ≤ a → 1 ≤ b → 1 ≤ a * b
some_time a b h k = grind arith

same_test : (a b c d : ℕ) → (a ≡ b → c ≡ d) → (c ≡ d → a ≡ b) → (a == b) ≡ (c == d)
same_test a b c d f g = elim (split_bool (a == b)) [
  | inl e ↦ elim (split_bool (c == d)) [
    | inl x ↦ e ∙ sym x
    | inr x ↦ absurd (let h : a ≡ b = grind (arith, nat_tests) in let k : c ≡ d = f h in differ (sym (grind (arith, nat_tests)) ∙ x))
  ]
  | inr e ↦ elim (split_bool (c == d)) [
    | inl x ↦ absurd (let h : c ≡ d = grind (arith, nat_tests) in let k : a ≡ b = g h in differ (sym (grind (arith, nat_tests)) ∙ e))
    | inr x ↦ e ∙ sym x
  ]
]

same_lt : (a b c d : ℕ) → (a < b → c < d) → (c < d → a < b) → nat_lt a b ≡ nat_lt c d
same_lt a b c d f g = elim (split_bool (nat_lt a b)) [
  | inl e ↦ elim (split_bool (nat_lt c d)) [
    | inl x ↦ e ∙ sym x
    | inr x ↦ absurd (let h : a < b = grind (arith, nat_tests) in let k : c < d = f h in differ (sym (grind (arith, nat_tests)) ∙ x))
  ]
  | inr e ↦ elim (split_bool (nat_lt c d)) [
    | inl x ↦ absurd (let h : c < d = grind (arith, nat_tests) in let k : a < b = g h in differ (sym (grind (arith, nat_tests)) ∙ e))
    | inr x ↦ e ∙ sym x
  ]
]

same_le : (a b c d : ℕ) → (a ≤ b → c ≤ d) → (c ≤ d → a ≤ b) → nat_le a b ≡ nat_le c d
same_le a b c d f g = elim (split_bool (nat_le a b)) [
  | inl e ↦ elim (split_bool (nat_le c d)) [
    | inl x ↦ e ∙ sym x
    | inr x ↦ absurd (let h : a ≤ b = grind (arith, nat_tests) in let k : c ≤ d = f h in differ (sym (grind (arith, nat_tests)) ∙ x))
  ]
  | inr e ↦ elim (split_bool (nat_le c d)) [
    | inl x ↦ absurd (let h : c ≤ d = grind (arith, nat_tests) in let k : a ≤ b = g h in differ (sym (grind (arith, nat_tests)) ∙ e))
    | inr x ↦ e ∙ sym x
  ]
]

module _ (r s : RunData) (m d n : ℕ) (sound : IsSoundRun r) (some : 1 ≤ m) (is : IsContinuedBy r m s) (dom : IsDomain r.plan d) where
  abbrev T : ℕ
  T = time_after r m

  abbrev sec : ℕ
  sec = (domain_of r.plan d).seconds

  abbrev b : Begin
  b = begin_of r.initial.begins d

  sec_is : (domain_of s.plan d).seconds ≡ sec
  sec_is = ap (λ (x : Domain). x.seconds) (is.plan.domains d dom)

  sec_some : 1 ≤ sec
  sec_some = (sound.sound).steps d dom

  -- where it goes on
  on_times : goes_on r m d ≡ true → HasSameTimes r m s d (n * sec)
  on_times on = record {
    steps = ap (λ x. steps_from x (domain_of s.plan d).seconds (not_before (domain_of s.plan d).begins) (n * sec)) (goes r s m d is dom on)
        ∙ ap (λ k. steps_after r m d + (n * sec - 0) / k) sec_is
        ∙ on_steps b.steps sec n T (begin_time r.plan r.initial.begins d) sec_some (begun_before b.resumed (not_before (domain_of r.plan d).begins) T on);
    starts = ap (λ x. starts_from x (not_before (domain_of s.plan d).begins) (n * sec)) (goes r s m d is dom on)
        ∙ sym (no_start b.resumed (begin_time r.plan r.initial.begins d) T (n * sec) on);
    has_started = ap (λ x. started_from x (not_before (domain_of s.plan d).begins) (n * sec)) (goes r s m d is dom on)
        ∙ sym (has_start b.resumed (begin_time r.plan r.initial.begins d) T (n * sec) on);
    begun = ap (λ x. begun_from x (not_before (domain_of s.plan d).begins) (n * sec)) (goes r s m d is dom on)
        ∙ sym (has_begun b.resumed (begin_time r.plan r.initial.begins d) T (n * sec) on);
  }

  -- where it waits
  wait_times : goes_on r m d ≡ false → HasSameTimes r m s d (n * sec)
  wait_times off =
      let fresh : b.resumed ≡ false = not_resumed b.resumed (nat_lt (begin_time r.plan r.initial.begins d) T) off in
      let nb : ℕ = not_before (domain_of r.plan d).begins in
      let mb : ℕ = not_before (domain_of s.plan d).begins in
      let first : 1 ≤ (domain_of r.plan 1).seconds = (sound.sound).steps 1 (omega arith, (sound.sound).some) in
      let past : T ≤ nb = at_or_past nb T (sym (λ i. nat_lt (if fresh i then 0 else nb) T) ∙ not_begun b.resumed (nat_lt (begin_time r.plan r.initial.begins d) T) off) in
      let begin_at : mb + T ≡ nb = sooner (domain_of s.plan d).begins (domain_of r.plan d).begins T (is.plan.waiting d dom off) (some_time m (domain_of r.plan 1).seconds some first) past in
      let gone : n * sec - mb ≡ n * sec + T - nb = omega (arith, begin_at) in
      record {
        steps = ap (λ x. steps_from x (domain_of s.plan d).seconds mb (n * sec)) (waits r s m d is dom off)
            ∙ (λ i. b.steps + (n * sec - (if fresh i then 0 else mb)) / sec_is i)
            ∙ ap (λ k. b.steps + k / sec) gone
            ∙ sym (λ i. b.steps + (n * sec + T - (if fresh i then 0 else nb)) / sec);
        starts = ap (λ x. starts_from x mb (n * sec)) (waits r s m d is dom off)
            ∙ (λ i. not b.resumed && ((if fresh i then 0 else mb) == n * sec))
            ∙ ap (λ k. not b.resumed && k) (same_test mb (n * sec) nb (n * sec + T) (λ e. omega (arith, e, begin_at)) (λ e. omega (arith, e, begin_at)))
            ∙ sym (λ i. not b.resumed && ((if fresh i then 0 else nb) == n * sec + T));
        has_started = ap (λ x. started_from x mb (n * sec)) (waits r s m d is dom off)
            ∙ (λ i. b.resumed || nat_le (if fresh i then 0 else mb) (n * sec))
            ∙ ap (λ k. b.resumed || k) (same_le mb (n * sec) nb (n * sec + T) (λ e. omega (arith, e, begin_at)) (λ e. omega (arith, e, begin_at)))
            ∙ sym (λ i. b.resumed || nat_le (if fresh i then 0 else nb) (n * sec + T));
        begun = ap (λ x. begun_from x mb (n * sec)) (waits r s m d is dom off)
            ∙ (λ i. b.resumed || nat_lt (if fresh i then 0 else mb) (n * sec))
            ∙ ap (λ k. b.resumed || k) (same_lt mb (n * sec) nb (n * sec + T) (λ e. omega (arith, e, begin_at)) (λ e. omega (arith, e, begin_at)))
            ∙ sym (λ i. b.resumed || nat_lt (if fresh i then 0 else nb) (n * sec + T));
      }

pub same_times : DomainsHaveTheSameTimes
same_times r s m d n sound some within is dom = elim (split_bool (goes_on r m d)) [
  | inl on ↦ on_times r s m d n sound some is dom on
  | inr off ↦ wait_times r s m d n sound some is dom off
]
