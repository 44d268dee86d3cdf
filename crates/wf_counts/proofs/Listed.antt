-- What is counted over numbers, counted over the items themselves.
use Rattle.std.proofs.Common.{◌≡◌, ℕ, ◌+◌, ◌*◌, false, length, sym, ap, ◌∙◌, arith}
use Rattle.std.proofs.lemmas.Bool.Decides.{nat_tests}
use Rattle.std.specs.Prelude.{◌==◌, sum_by, if◌then◌else◌}
use Rattle.wf_model.specs.declared.plan.Plan.{Plan}
use Rattle.wf_model.specs.Plans.{field_of, item_of, no_field, no_item, levels_of}
use Rattle.wf_model.specs.Streams.{one_if, is_in_stream, stream_levels}
use Rattle.wf_model.specs.Halves.{item_halves}
use Rattle.wf_model.specs.Weights.{parent_steps}
use Rattle.wf_count_laws.specs.Occurrences.{begins_within}
use Rattle.wf_count_laws.specs.ByDomains.{nest_items, table_halves}
use Rattle.wf_count_laws.proofs.Sums.{sum-filter}
use Rattle.wf_count_laws.proofs.ScriptCounts.{length-ones}
use Rattle.wf_counts.specs.Capped.{capped}
use Rattle.wf_counts.specs.Parts.{half_count, one_held}
use Rattle.wf_counts.proofs.CappedSums.{none_yet, sum_listed}

-- the halves of the table
pub halves_listed : (plan : Plan) → table_halves plan ≡ sum_by half_count plan.items
unfolding item_of
halves_listed plan =
    sum_listed (λ n. length (item_halves (item_of plan n))) half_count no_item 0 plan.items (λ i h. ap (λ (n : ℕ). length (item_halves (item_of plan n))) (omega arith))

-- the levels of a stream
pub levels_listed : (plan : Plan) (stream : ℕ) → length (stream_levels plan stream) ≡ sum_by (one_held stream) plan.fields
unfolding stream_levels field_of
levels_listed plan stream =
    length-ones (stream_levels plan stream)
    ∙ sum-filter (λ f. 1) (is_in_stream plan stream) (levels_of plan)
    ∙ sum_listed (λ f. one_if (is_in_stream plan stream f)) (one_held stream) no_field 0 plan.fields (λ i h. ap (λ (f : ℕ). one_if (is_in_stream plan stream f)) (omega arith))

-- ---- items of nests

pub first_has_none : (plan : Plan) (d : ℕ) → d ≡ 1 → 0 ≡ capped (nest_items plan d)
first_has_none plan d first = none_yet ∙ ap (λ (n : ℕ). capped (nest_items plan n)) (sym first)

pub nest_has : (plan : Plan) (d : ℕ) → (d ≡ 1 → ⊥) → nest_items plan d ≡ one_if (begins_within plan d) + parent_steps plan d * (if plan.feedback then 2 else 1)
nest_has plan d nest =
    let other : (d == 1) ≡ false = grind (arith, nat_tests) in
    λ i. if other i then 0 else one_if (begins_within plan d) + parent_steps plan d * (if plan.feedback then 2 else 1)
