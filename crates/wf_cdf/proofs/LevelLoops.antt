-- One level more, in the loops over the levels of a stream.
use Rattle.std.proofs.Common.{◌≡◌, ℕ, suc, ◌+◌, ◌<◌, ◌≤◌, Bool, cond, not, All, List, [], ◌∷◌, ◌++◌, length, map, take, get_or, refl, sym, ap, ◌∙◌, append_assoc, zero-add, arith}
use Rattle.std.specs.List.{filter, flat_map, fold, range_with_len}
use Rattle.std.proofs.Math.Seq.{take-suc}
use Rattle.std.proofs.lemmas.List.{append-nil}
use Rattle.std.proofs.lemmas.List.Concat.{flat_map-cons}
use Rattle.std.proofs.lemmas.List.Filters.{length-filter_both}
use Rattle.std.proofs.lemmas.List.Sums.{fold-append}
use Rattle.std.proofs.lemmas.List.FromFn.{filter_of_map_range_with_len_more, get_or-range_with_len, length-range_with_len}
use Rattle.std.proofs.lemmas.Grind.{flat_map-append}
use Rattle.wf_model.specs.declared.plan.Plan.{Plan}
use Rattle.std.proofs.lemmas.List.Elements.{All-get_or, All-filter, All-from_get_or}
use Rattle.wf_model.specs.Plans.{field_of, no_field}
use Rattle.wf_model.specs.Ranges.{IsRangedField}
use Rattle.wf_model.specs.Sound.{IsLevel}
use Rattle.wf_model.specs.Streams.{is_in_stream, stream_levels}
use Rattle.wf_model.specs.Headers.{add_dim, dims_of_level}
use Rattle.wf_cdf.specs.StreamLevels.{dims_of_levels, first_dims}

map_same : {A : Type 0} (xs : List A) → map (λ x. x) xs ≡ xs
map_same [] = refl
map_same (x ∷ xs) = ap (λ ys. x ∷ ys) (map_same xs)

-- the next number passes, or it doesn't
pub levels_more : (p : ℕ → Bool) (n : ℕ) → filter p (range_with_len 0 (n + 1)) ≡ filter p (range_with_len 0 n) ++ cond (p n) (n ∷ []) []
levels_more p n =
    ap (filter p) (sym (map_same (range_with_len 0 (n + 1)))) ∙ filter_of_map_range_with_len_more p (λ x. x) 0 n n (zero-add n)
    ∙ ap (λ xs. filter p xs ++ cond (p n) (n ∷ []) []) (map_same (range_with_len 0 n))

-- the dimensions of the next level are added
pub dims_more : (plan : Plan) (d : ℕ) (levels : List ℕ) (i : ℕ) → i < length levels →
    dims_of_levels plan d (take (i + 1) levels) ≡ fold add_dim (dims_of_levels plan d (take i levels)) (dims_of_level plan d (get_or levels i 0))
unfolding dims_of_levels
dims_more plan d levels i h =
    let here : ℕ = get_or levels i 0 in
    let on : i + 1 ≡ suc i = omega arith in
    ap (λ n. fold add_dim first_dims (flat_map (dims_of_level plan d) (take n levels))) on
    ∙ ap (λ ls. fold add_dim first_dims (flat_map (dims_of_level plan d) ls)) (take-suc levels i 0 h)
    ∙ ap (fold add_dim first_dims) (flat_map-append (dims_of_level plan d) (take i levels) (here ∷ []))
    ∙ fold-append add_dim first_dims (flat_map (dims_of_level plan d) (take i levels)) (flat_map (dims_of_level plan d) (here ∷ []))
    ∙ ap (fold add_dim (fold add_dim first_dims (flat_map (dims_of_level plan d) (take i levels)))) (flat_map-cons (dims_of_level plan d) here [] ∙ append-nil (dims_of_level plan d here))

-- without a level there are the first two
pub dims_none : (plan : Plan) (d : ℕ) → dims_of_levels plan d [] ≡ first_dims
unfolding dims_of_levels
dims_none plan d = refl

-- a level's field keeps its ranges
pub ranged : (plan : Plan) (f : ℕ) → IsLevel plan f → All IsRangedField plan.fields → IsRangedField (field_of plan f)
unfolding field_of
ranged plan f is all = All-get_or IsRangedField plan.fields f no_field is all

-- a stream holds levels of the plan alone
pub levels_within : (plan : Plan) (stream : ℕ) → All (IsLevel plan) (stream_levels plan stream)
unfolding stream_levels
levels_within plan stream =
    All-filter (is_in_stream plan stream) (IsLevel plan) (range_with_len 0 (length plan.fields))
    (All-from_get_or (IsLevel plan) (range_with_len 0 (length plan.fields)) 0
    (λ i h. let here : get_or (range_with_len 0 (length plan.fields)) i 0 ≡ 0 + i = get_or-range_with_len 0 (length plan.fields) i 0 (omega (arith, length-range_with_len 0 (length plan.fields))) in
    omega (arith, here, h, length-range_with_len 0 (length plan.fields))))

few_pass : (p : ℕ → Bool) (xs : List ℕ) → length (filter p xs) ≤ length xs
few_pass p xs = let both = length-filter_both p (λ x. not (p x)) (λ x. refl) xs in omega (arith, both)

-- and no more than the plan has
pub levels_few : (plan : Plan) (stream : ℕ) → length (stream_levels plan stream) ≤ length plan.fields
unfolding stream_levels
levels_few plan stream = let few = few_pass (is_in_stream plan stream) (range_with_len 0 (length plan.fields)) in omega (arith, few, length-range_with_len 0 (length plan.fields))

-- two numbers more at the end
pub two_more : (first : List ℕ) (y x : ℕ) → (first ++ y ∷ []) ++ x ∷ [] ≡ first ++ y ∷ x ∷ []
two_more first y x = append_assoc first (y ∷ []) (x ∷ [])
