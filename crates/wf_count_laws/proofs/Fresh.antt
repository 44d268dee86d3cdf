-- Where no domain resumes: its begin, its steps so far and its start.
use Rattle.std.proofs.Common.{◌≡◌, ℕ, zero, suc, ◌+◌, ◌-◌, ◌/◌, false, List, [], ◌∷◌, map, get_or, refl, ap, ◌∙◌, arith}
use Rattle.std.specs.Prelude.{◌==◌, ◌||◌, ◌&&◌, not, nat_lt, nat_le, if◌then◌else◌}
use Rattle.wf_model.specs.declared.plan.Plan.{Plan}
use Rattle.wf_model.specs.declared.initial.Begin.{Begin}
use Rattle.wf_model.specs.Plans.{domain_of, begin_of, domains_of, no_begin}
use Rattle.wf_model.specs.Script.{begin_time, steps_by, starts_at, has_started_by}
use Rattle.wf_model.specs.Counts.{fresh_begin, fresh_begins}
use Rattle.wf_model.specs.Weights.{begins_at}

all_fresh : (xs : List ℕ) (n : ℕ) → get_or (map (λ d. fresh_begin) xs) n no_begin ≡ fresh_begin
unfolding no_begin
all_fresh [] n = refl
all_fresh (x ∷ xs) zero = refl
all_fresh (x ∷ xs) (suc n) = all_fresh xs n

-- each domain begins from nothing
pub fresh : (plan : Plan) (d : ℕ) → begin_of (fresh_begins plan) d ≡ fresh_begin
unfolding begin_of
fresh plan d = all_fresh (domains_of plan) (d - 1)

module _ (plan : Plan) where
  abbrev begins : List Begin
  begins = fresh_begins plan

  pub not_resumed : (d : ℕ) → (begin_of begins d).resumed ≡ false
  not_resumed d = ap (λ (b : Begin). b.resumed) (fresh plan d)

  pub time_is : (d : ℕ) → begin_time plan begins d ≡ begins_at plan d
  time_is d = λ i. if not_resumed d i then 0 else begins_at plan d

  -- its steps so far
  pub steps_are : (d t : ℕ) → steps_by plan begins d t ≡ (t - begins_at plan d) / (domain_of plan d).seconds
  steps_are d t = (λ i. (fresh plan d i).steps + (t - time_is d i) / (domain_of plan d).seconds) ∙ zero_left ((t - begins_at plan d) / (domain_of plan d).seconds)
    where
      zero_left : (n : ℕ) → 0 + n ≡ n
      zero_left n = omega arith

  pub starts_is : (d t : ℕ) → starts_at plan begins d t ≡ (begins_at plan d == t)
  starts_is d t = λ i. not (not_resumed d i) && (time_is d i == t)

  pub started_is : (d t : ℕ) → has_started_by plan begins d t ≡ nat_le (begins_at plan d) t
  started_is d t = λ i. not_resumed d i || nat_le (time_is d i) t

  -- it began before this time
  pub begun_is : (d t : ℕ) → ((begin_of begins d).resumed || nat_lt (begin_time plan begins d) t) ≡ nat_lt (begins_at plan d) t
  begun_is d t = λ i. not_resumed d i || nat_lt (time_is d i) t
