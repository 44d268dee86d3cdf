-- What a domain weighs, where all items of nests weigh the same.
use Rattle.std.proofs.Common.{◌≡◌, ℕ, ◌+◌, ◌*◌, Bool, true, false, List, length, refl, sym, ap, ◌∙◌, arith}
use Rattle.std.proofs.lemmas.List.FromFn.{length-range_with_len}
use Rattle.std.specs.Prelude.{sum_by, slice_index, nat_lt, ◌==◌, ◌||◌, if◌then◌else◌}
use Rattle.std.specs.List.{range_with_len}
use Rattle.wf_model.specs.declared.plan.Plan.{Plan}
use Rattle.wf_model.specs.declared.script.Act.TheVariants.{Start, Force, Feedback, Emit}
use Rattle.wf_model.specs.Plans.{domain_of, domains_of, item_of}
use Rattle.wf_model.specs.Script.{restart_stream}
use Rattle.wf_model.specs.Streams.{one_if}
use Rattle.wf_model.specs.Halves.{item_halves}
use Rattle.wf_model.specs.Counts.{own_steps, due_steps, more_events}
use Rattle.wf_laws.proofs.Bools.{equal_of}
use Rattle.wf_model.specs.Weights.{Weights, parent_steps, restart_count, table_weight, start_frames_weight, due_frames_weight, nest_weight, domain_weight}
use Rattle.wf_count_laws.specs.ScriptCounts.{one_each, frame_weight, event_weight}
use Rattle.wf_count_laws.specs.Occurrences.{begins_within, frames_of_stream}
use Rattle.wf_count_laws.specs.ByDomains.{nest_items, domain_frames, domain_items, table_halves, domain_events, ItemsAreThoseOfDomains, FramesAreThoseOfDomains, EventsAreThoseOfDomains}
use Rattle.wf_count_laws.proofs.Sums.{sum-same, sum-both, sum-zeros, sum-times}
use Rattle.wf_count_laws.proofs.ScriptCounts.{length-ones, items, frames, events}

module _ (plan : Plan) (w : Weights) (d nest : ℕ) (start : w d Start ≡ nest) (force : w d Force ≡ nest) (feedback : w d Feedback ≡ nest) where
  -- the frames at the start of a domain that begins within the run
  abbrev first_frames : ℕ
  first_frames = sum_by (λ s. (if (d == 1) || begins_within plan d then one_if (nat_lt 0 (slice_index (domain_of plan d).intervals s)) else 0) * w d (Emit s)) (range_with_len 0 10)

  first_are : (b : Bool) → sum_by (λ s. (if b then one_if (nat_lt 0 (slice_index (domain_of plan d).intervals s)) else 0) * w d (Emit s)) (range_with_len 0 10) ≡ (if b then start_frames_weight plan w d else 0)
  first_are true = sum-same (λ s. one_if (nat_lt 0 (slice_index (domain_of plan d).intervals s)) * w d (Emit s)) (λ s. if nat_lt 0 (slice_index (domain_of plan d).intervals s) then w d (Emit s) else 0) (range_with_len 0 10)
      (λ s i. chosen (nat_lt 0 (slice_index (domain_of plan d).intervals s)) (w d (Emit s)))
    where
      chosen : (b : Bool) (v : ℕ) → one_if b * v ≡ (if b then v else 0)
      chosen true v = omega arith
      chosen false v = omega arith
  first_are false = sum-zeros (λ s. 0 * w d (Emit s)) (range_with_len 0 10) (λ s i. omega arith)

  stream_parts : first_frames + due_frames_weight plan w d (own_steps plan d) ≡ sum_by (λ s. frames_of_stream plan d s * w d (Emit s)) (range_with_len 0 10)
  stream_parts = sum-both (λ s. (if (d == 1) || begins_within plan d then one_if (nat_lt 0 (slice_index (domain_of plan d).intervals s)) else 0) * w d (Emit s)) (λ s. due_steps (slice_index (domain_of plan d).intervals s) (own_steps plan d) * w d (Emit s)) (λ s. frames_of_stream plan d s * w d (Emit s)) (range_with_len 0 10)
      (λ s i. joined (if (d == 1) || begins_within plan d then one_if (nat_lt 0 (slice_index (domain_of plan d).intervals s)) else 0) (due_steps (slice_index (domain_of plan d).intervals s) (own_steps plan d)) (w d (Emit s)))
    where
      joined : (a b v : ℕ) → a * v + b * v ≡ (a + b) * v
      joined a b v = grind arith

  nest_part : (one : Bool) → (d == 1) ≡ one → (if one then start_frames_weight plan w 1 else nest_weight plan w d) ≡ (if one || begins_within plan d then start_frames_weight plan w d else 0) + (if one then 0 else one_if (begins_within plan d) + parent_steps plan d * (if plan.feedback then 2 else 1)) * nest
  nest_part true e = ap (start_frames_weight plan w) (sym (equal_of d 1 e)) ∙ omega arith
  nest_part false e =
      (λ i. (if begins_within plan d then start i + start_frames_weight plan w d else 0) + parent_steps plan d * (force i + (if plan.feedback then feedback i else 0)))
      ∙ sums (begins_within plan d) plan.feedback (start_frames_weight plan w d) (parent_steps plan d) nest
    where
      sums : (in_run back : Bool) (frames par v : ℕ) → (if in_run then v + frames else 0) + par * (v + (if back then v else 0)) ≡ (if in_run then frames else 0) + (one_if in_run + par * (if back then 2 else 1)) * v
      sums true true frames par v = grind arith
      sums true false frames par v = grind arith
      sums false true frames par v = grind arith
      sums false false frames par v = grind arith

  pub plain : domain_weight plan w d ≡ own_steps plan d * table_weight plan w d + sum_by (λ s. frames_of_stream plan d s * w d (Emit s)) (range_with_len 0 10) + restart_count plan d * w d (Emit restart_stream) + nest_items plan d * nest
  unfolding domain_weight
  plain = omega (arith, stream_parts, first_are ((d == 1) || begins_within plan d), nest_part (d == 1) refl)

-- a sum of products with 1
once : {X : Type 0} (f : X → ℕ) (xs : List X) → sum_by (λ x. f x * 1) xs ≡ sum_by f xs
once f xs = sum-same (λ x. f x * 1) f xs (λ x i. omega arith)

items_of : (plan : Plan) (d : ℕ) → domain_weight plan one_each d ≡ domain_items plan d
items_of plan d =
    let table : table_weight plan one_each d ≡ length plan.items = sym (length-ones (range_with_len 0 (length plan.items))) ∙ length-range_with_len 0 (length plan.items) in
    omega (arith, plain plan one_each d 1 refl refl refl, ap (λ (n : ℕ). own_steps plan d * n) table, once (frames_of_stream plan d) (range_with_len 0 10))

pub items_by_domains : ItemsAreThoseOfDomains
items_by_domains plan timed = omega (arith, items plan timed, sum-same (domain_weight plan one_each) (domain_items plan) (domains_of plan) (λ d i. items_of plan d))

frames_in : (plan : Plan) (d : ℕ) → domain_weight plan frame_weight d ≡ domain_frames plan d
frames_in plan d =
    let table : table_weight plan frame_weight d ≡ 0 = sum-zeros (λ n. 0) (range_with_len 0 (length plan.items)) (λ n i. refl) in
    omega (arith, plain plan frame_weight d 0 refl refl refl, ap (λ (n : ℕ). own_steps plan d * n) table, once (frames_of_stream plan d) (range_with_len 0 10))

pub frames_by_domains : FramesAreThoseOfDomains
frames_by_domains plan timed = omega (arith, frames plan timed, sum-same (domain_weight plan frame_weight) (domain_frames plan) (domains_of plan) (λ d i. frames_in plan d))

events_of : (plan : Plan) (patches d : ℕ) → domain_weight plan (event_weight plan patches) d ≡ domain_events plan patches d
events_of plan patches d =
    let table : table_weight plan (event_weight plan patches) d ≡ table_halves plan * patches = sym (sum-times (λ n. length (item_halves (item_of plan n))) patches (range_with_len 0 (length plan.items))) in
    plain plan (event_weight plan patches) d (2 * patches) refl refl refl
    ∙ ap (λ (n : ℕ). own_steps plan d * n + sum_by (λ s. frames_of_stream plan d s * more_events plan patches s) (range_with_len 0 10) + restart_count plan d * more_events plan patches restart_stream + nest_items plan d * (2 * patches)) table

pub events_by_domains : EventsAreThoseOfDomains
events_by_domains plan split timed =
    omega (arith, events plan split timed, sum-same (domain_weight plan (event_weight plan (split.in_x * split.in_y))) (domain_events plan (split.in_x * split.in_y)) (domains_of plan) (λ d i. events_of plan (split.in_x * split.in_y) d))
