-- The cells of all domains, by their data in order.
use Rattle.std.proofs.Common.{◌≡◌, ℕ, suc, ◌+◌, ◌<◌, List, [], ◌∷◌, length, get_or, refl, ap, ◌∙◌, arith}
use Rattle.std.proofs.lemmas.List.Sums.{sum_by-cons}
use Rattle.std.specs.Prelude.{sum_by}
use Rattle.std.specs.List.{range_with_len}
use Rattle.wf_model.specs.declared.plan.Plan.{Plan}
use Rattle.wf_model.specs.Plans.{domain_of, field_of, no_domain, no_field, levels_of}
use Rattle.wf_model.specs.Counts.{own_cells, all_cells}
use Rattle.wf_plan_limits.specs.CellCount.{level_cells, domain_cells}

-- a sum over the numbers of some items is the sum over these
sum_by-listed : {X : Type 0} (f : ℕ → ℕ) (g : X → ℕ) (d : X) (a : ℕ) (xs : List X) → ((i : ℕ) → i < length xs → f (a + i) ≡ g (get_or xs i d)) → sum_by f (range_with_len a (length xs)) ≡ sum_by g xs
sum_by-listed f g d a [] each = refl
sum_by-listed f g d a (x ∷ xs) each =
    let first : a + 0 ≡ a = omega arith in
    let here = each 0 (omega arith) in
    omega (arith, ap f first, here, sum_by-cons f a (range_with_len (a + 1) (length xs)), sum_by-cons g x xs, sum_by-listed f g d (a + 1) xs (λ i h. ap f (omega arith) ∙ each (suc i) (omega arith)))

pub all_cells_listed : (plan : Plan) → all_cells plan ≡ sum_by (domain_cells plan.fields) plan.domains
unfolding domain_of field_of
all_cells_listed plan =
    sum_by-listed (λ d. sum_by (own_cells plan d) (levels_of plan)) (domain_cells plan.fields) no_domain 1 plan.domains
    (λ i h. sum_by-listed (own_cells plan (1 + i)) (level_cells (domain_of plan (1 + i))) no_field 0 plan.fields (λ k u. ap (own_cells plan (1 + i)) (omega arith))
    ∙ ap (λ (k : ℕ). domain_cells plan.fields (get_or plan.domains k no_domain)) (omega arith))
