-- A domain takes whole steps up to the run's end.
use Rattle.std.proofs.Common.{◌≡◌, inl, inr, ℕ, zero, suc, ◌+◌, ◌-◌, ◌*◌, ◌/◌, ◌≤◌, sym, ap, ◌∙◌, arith}
use Rattle.std.proofs.lemmas.Bool.{cases_lt}
use Rattle.std.proofs.lemmas.Nat.{div-mul-add, div-add-mod', mul-le}
use Rattle.wf_model.specs.declared.plan.Plan.{Plan}
use Rattle.wf_model.specs.Plans.{domain_of}
use Rattle.wf_model.specs.Sound.{IsDomain}
use Rattle.wf_model.specs.Weights.{begins_at, parent_seconds, run_seconds, IsNestInTime, HasDomainsInTime}
use Rattle.wf_count_laws.specs.Weights.{StepsFillTheRun, NestsStepWithTheirParents}

-- n is a whole number of s
record IsWhole (n s : ℕ) : Type 0 where
  steps : ℕ
  is : n ≡ steps * s

-- what is left of one after another
less : (a b s : ℕ) → a * s - b * s ≡ (a - b) * s
less a b s = elim (cases_lt b a) [
  | inl below ↦
      let all : a ≡ b + (a - b) = omega (arith, below) in
      let rows : a * s ≡ b * s + (a - b) * s = ap (λ (x : ℕ). x * s) all ∙ spread b (a - b) s in
      omega (arith, rows)
  | inr above ↦
      let rows : a * s ≤ b * s = mul-le a s b s (omega (arith, above)) (omega arith) in
      let none : (a - b) * s ≡ 0 = ap (λ (x : ℕ). x * s) (gone above) ∙ omega arith in
      omega (arith, rows, none)
]
  where
    spread : (b k s : ℕ) → (b + k) * s ≡ b * s + k * s
    spread b k s = grind arith

    gone : a ≤ b → a - b ≡ 0
    gone h = omega (arith, h)

minus : (n m s : ℕ) → IsWhole n s → IsWhole m s → IsWhole (n - m) s
minus n m s x y = record { steps = x.steps - y.steps; is = (λ i. x.is i - y.is i) ∙ less x.steps y.steps s }

over : (n s : ℕ) → 1 ≤ s → (x : IsWhole n s) → n / s ≡ x.steps
over n s h x =
    let plain : n ≡ x.steps * s + 0 = omega (arith, x.is) in
    ap (λ (k : ℕ). k / s) plain ∙ div-mul-add x.steps s 0 (omega (arith, h))

times_times : (a b c : ℕ) → a * (b * c) ≡ (a * b) * c
times_times a b c = grind arith

in_rows : (k s r : ℕ) → k * (s * r) ≡ (k * r) * s
in_rows k s r = grind arith

module _ (plan : Plan) (timed : HasDomainsInTime plan) where
  abbrev sec : ℕ → ℕ
  sec d = (domain_of plan d).seconds

  -- what fills a parent's steps fills the nest's
  finer_is : (n k c : ℕ) → IsNestInTime plan c → n ≡ k * parent_seconds plan c → n ≡ (k * (domain_of plan c).time_ratio) * sec c
  finer_is n k c t e = e ∙ ap (λ (y : ℕ). k * y) (sym t.seconds) ∙ in_rows k (sec c) (domain_of plan c).time_ratio

  finer : (n c : ℕ) → IsNestInTime plan c → IsWhole n (parent_seconds plan c) → IsWhole n (sec c)
  finer n c t x = record { steps = x.steps * (domain_of plan c).time_ratio; is = finer_is n x.steps c t x.is }

  -- a step of domain 1 is a whole number of each domain's
  whole : (fuel d : ℕ) → d ≤ fuel → IsDomain plan d → IsWhole (sec 1) (sec d)
  whole zero d le is = absurd (omega (arith, le, is.0))
  whole (suc fuel) d le is = elim (cases_lt 1 d) [
    | inl nest ↦
        let t : IsNestInTime plan d = timed.nests d nest is in
        finer (sec 1) d t (whole fuel (domain_of plan d).parent (omega (arith, t.before, le)) t.parent)
    | inr first ↦ let one : 1 ≡ d = omega (arith, first, is.0) in record { steps = 1; is = ap sec one ∙ once (sec d) }
  ]
    where
      once : (n : ℕ) → n ≡ 1 * n
      once n = omega arith

  -- so is the whole run
  run : (d : ℕ) → IsDomain plan d → IsWhole (run_seconds plan) (sec d)
  run d is =
      let x : IsWhole (sec 1) (sec d) = whole d d (omega arith) is in
      record { steps = plan.steps * x.steps; is = ap (λ (y : ℕ). plan.steps * y) x.is ∙ times_times plan.steps x.steps (sec d) }

  -- and what is left of it at a nest's begin, by its parent's steps
  rest : (c : ℕ) → (t : IsNestInTime plan c) → IsWhole (run_seconds plan - begins_at plan c) (parent_seconds plan c)
  rest c t = minus (run_seconds plan) (begins_at plan c) (parent_seconds plan c) (run (domain_of plan c).parent t.parent)
      (record { steps = begins_at plan c / parent_seconds plan c; is = omega (arith, div-add-mod' (begins_at plan c) (parent_seconds plan c), t.whole) })

  own_rest : (d : ℕ) → IsDomain plan d → IsWhole (run_seconds plan - begins_at plan d) (sec d)
  own_rest d is = elim (cases_lt 1 d) [
    | inl nest ↦ let t : IsNestInTime plan d = timed.nests d nest is in finer (run_seconds plan - begins_at plan d) d t (rest d t)
    | inr first ↦
        let one : 1 ≡ d = omega (arith, first, is.0) in
        let none : begins_at plan d ≡ 0 = ap (begins_at plan) (sym one) ∙ timed.first in
        let x : IsWhole (run_seconds plan) (sec d) = run d is in
        record { steps = x.steps; is = omega (arith, none, x.is) }
  ]

pub filled : StepsFillTheRun
filled plan d timed is =
    let x : IsWhole (run_seconds plan - begins_at plan d) (domain_of plan d).seconds = own_rest plan timed d is in
    ap (λ (k : ℕ). k * (domain_of plan d).seconds) (over (run_seconds plan - begins_at plan d) (domain_of plan d).seconds (timed.steps d is) x) ∙ sym x.is

pub within_parents : NestsStepWithTheirParents
within_parents plan c timed nest is =
    let t : IsNestInTime plan c = timed.nests c nest is in
    let x : IsWhole (run_seconds plan - begins_at plan c) (parent_seconds plan c) = rest plan timed c t in
    over (run_seconds plan - begins_at plan c) (domain_of plan c).seconds (timed.steps c is)
    (record { steps = x.steps * (domain_of plan c).time_ratio; is = finer_is plan timed (run_seconds plan - begins_at plan c) x.steps c t x.is })
    ∙ ap (λ (k : ℕ). k * (domain_of plan c).time_ratio) (sym (over (run_seconds plan - begins_at plan c) (parent_seconds plan c) (timed.steps (domain_of plan c).parent t.parent) x))
