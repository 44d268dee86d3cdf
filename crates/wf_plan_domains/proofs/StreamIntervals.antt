-- The intervals of a domain's streams, and their tests.
use Rattle.std.proofs.Common.{◌≡◌, ℕ, ◌<◌, ◌==◌, true, false, List, map, length, get_or, Bor, Option, sym, ap, ◌∙◌, arith}
use Rattle.std.specs.Prelude.{codes, slice_index}
use Rattle.std.specs.List.{range_with_len}
use Rattle.std.specs.Option.{option_or}
use Rattle.std.proofs.lemmas.List.{get_or-map, length-map}
use Rattle.std.proofs.lemmas.Bool.Decides.{nat_tests}
use Rattle.wf_model.specs.declared.config.Config.{Config}
use Rattle.wf_model.specs.declared.plan.Plan.{Plan}
use Rattle.wf_model.specs.declared.plan_fault.PlanFault.{PlanFault}
use Rattle.wf_model.specs.Reading.{first_fault}
use Rattle.wf_model.specs.PlanDomains.{amount, interval_names}
use Rattle.wf_model.specs.PlanTests.{interval_fault}
use Rattle.wf_plan_domains.specs.DomainTests.{intervals_found, stream_minutes}
use Rattle.wf_plan_domains.proofs.FirstFound.{map_map, with_one, with_none}

-- the minutes of the stream whose name stands at its place
pub minutes_at : (config : Config) (d s : ℕ) (names : List (Bor (List ℕ))) (other : Bor (List ℕ)) → map (λ n. n.now) names ≡ interval_names → s < 10
    → amount config (get_or names s other).now d ≡ slice_index (stream_minutes config d) s
unfolding stream_minutes
minutes_at config d s names other is within =
    let count : length names ≡ 10 = sym (length-map names (λ (n : Bor (List ℕ)). n.now)) ∙ ap length is in
    let inside : s < length names = omega arith in
    sym (get_or-map (λ (n : Bor (List ℕ)). amount config n.now d) names s other 0 inside)
    ∙ ap (λ ns. get_or ns s 0) (sym (map_map (λ (n : Bor (List ℕ)). n.now) (λ name. amount config name d) names))
    ∙ ap (λ ns. get_or (map (λ name. amount config name d) ns) s 0) is

abbrev stream_tests : Config → Plan → ℕ → List (Option PlanFault)
stream_tests config plan d = map (λ s. interval_fault plan d s (slice_index (stream_minutes config d) s)) (range_with_len 0 10)

is_one : (d : ℕ) → d ≡ 1 → (d == 1) ≡ true
is_one d e = grind (arith, nat_tests)

is_other : (d : ℕ) → (d ≡ 1 → ⊥) → (d == 1) ≡ false
is_other d e = grind (arith, nat_tests)

pub with_restart : (config : Config) (plan : Plan) (d : ℕ) (first last : Option PlanFault) → d ≡ 1
    → first ≡ first_fault (stream_tests config plan d) → last ≡ interval_fault plan 1 10 (amount config (codes "restart_interval") 1)
    → option_or first last ≡ intervals_found config plan d
unfolding intervals_found stream_minutes
with_restart config plan d first last e here there =
    with_one (stream_tests config plan d) (d == 1) (interval_fault plan 1 10 (amount config (codes "restart_interval") 1)) first last (is_one d e) here there

pub without_restart : (config : Config) (plan : Plan) (d : ℕ) (first : Option PlanFault) → (d ≡ 1 → ⊥)
    → first ≡ first_fault (stream_tests config plan d) → first ≡ intervals_found config plan d
unfolding intervals_found stream_minutes
without_restart config plan d first e here =
    with_none (stream_tests config plan d) (d == 1) (interval_fault plan 1 10 (amount config (codes "restart_interval") 1)) first (is_other d e) here
