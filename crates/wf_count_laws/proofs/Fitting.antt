-- Counts fit in 64 bits.
use Rattle.std.proofs.Common.{◌≡◌, ℕ, ◌+◌, ◌*◌, ◌≤◌, Bool, true, false, length, refl, arith}
use Rattle.std.proofs.lemmas.Nat.{mul-le}
use Rattle.std.proofs.lemmas.List.Sums.{length-filter, count_by-le-length}
use Rattle.std.proofs.lemmas.List.FromFn.{length-range_with_len}
use Rattle.std.specs.Prelude.{nat_lt, ◌&&◌, if◌then◌else◌}
use Rattle.wf_model.specs.declared.plan.Plan.{Plan}
use Rattle.wf_model.specs.declared.plan.Item.{Item}
use Rattle.wf_model.specs.declared.plan.Item.TheVariants as item
use Rattle.wf_model.specs.declared.script.Act.{Act}
use Rattle.wf_model.specs.declared.script.Act.TheVariants.{Start, Force, Feedback, Table, Emit}
use Rattle.wf_model.specs.Plans.{domains_of, levels_of, item_of}
use Rattle.wf_model.specs.Dates.{days_before, seconds_before, last_moment}
use Rattle.wf_model.specs.Script.{restart_stream}
use Rattle.wf_model.specs.Streams.{is_in_stream, stream_levels}
use Rattle.wf_model.specs.Halves.{item_halves}
use Rattle.wf_model.specs.Counts.{more_restarts, more_events}
use Rattle.wf_laws.proofs.Members.{In-range_out}
use Rattle.wf_model.specs.Weights.{Weights, run_seconds, domain_weight, weight_by_domains}
use Rattle.wf_count_laws.specs.ScriptCounts.{one_each, event_weight}
use Rattle.wf_count_laws.specs.Occurrences.{most_weight}
use Rattle.wf_count_laws.specs.Fitting.{IsCountable, ItemsFit, EventsFit}
use Rattle.wf_count_laws.proofs.Sums.{sum-most}
use Rattle.wf_count_laws.proofs.Bounds.{weights_are_bounded}
use Rattle.wf_count_laws.proofs.ScriptCounts.{items, events}

-- the last second that there is
last_second : seconds_before last_moment ≡ 315537897599
unfolding days_before
last_second = refl

run_ends : (plan : Plan) → IsCountable plan → run_seconds plan ≤ 315537897599
run_ends plan c = omega (arith, (c.ends).finish, last_second)

one_or_none : (b : Bool) (n : ℕ) → n ≤ 8 → (if b then n else 0) ≤ 8
one_or_none true n h = h
one_or_none false n h = omega arith

few_restarts : (plan : Plan) → IsCountable plan → more_restarts plan ≤ 8
few_restarts plan c = one_or_none (plan.restart && nat_lt 0 plan.restart_steps) (length plan.domains) c.domains

-- one domain, and all
one_domain : (plan : Plan) (most : ℕ) → IsCountable plan → most_weight plan most ≤ 84879694454142 * most
one_domain plan most c =
    let rows : run_seconds plan * (length plan.items + 13) ≤ 315537897599 * 269 = mul-le (run_seconds plan) (length plan.items + 13) 315537897599 269 (run_ends plan c) (omega (arith, c.items)) in
    mul-le (run_seconds plan * (length plan.items + 13) + 11) most 84879694454142 most (omega (arith, rows)) (omega arith)

all_domains : (plan : Plan) (w : Weights) (most : ℕ) → IsCountable plan → ((d : ℕ) (act : Act) → w d act ≤ most) → weight_by_domains plan w ≤ 8 * (84879694454142 * most)
all_domains plan w most c each =
    let sum = sum-most (domain_weight plan w) (84879694454142 * most) (domains_of plan)
    (λ d i. let l = In-range_out d 1 (length plan.domains) i in omega (arith, weights_are_bounded plan w d most c.in_time (l.0, omega (arith, l.1)) (each d), one_domain plan most c)) in
    let count = length-range_with_len 1 (length plan.domains) in
    let rows : length (domains_of plan) * (84879694454142 * most) ≤ 8 * (84879694454142 * most) = mul-le (length (domains_of plan)) (84879694454142 * most) 8 (84879694454142 * most) (omega (arith, count, c.domains)) (omega arith) in
    omega (arith, sum, rows)

pub items_fit : ItemsFit
items_fit plan c = omega (arith, items plan c.in_time, all_domains plan one_each 1 c (λ d act. omega arith), few_restarts plan c)

-- ---- events

two_halves : (i : Item) → length (item_halves i) ≤ 2
two_halves (item.Halo parts) = omega arith
two_halves (item.Period parts) = omega arith
two_halves (item.Swap one two) = omega arith
two_halves (item.Phase ph) = omega arith

few_levels : (plan : Plan) (s : ℕ) → IsCountable plan → length (stream_levels plan s) ≤ 64
unfolding stream_levels
few_levels plan s c =
    omega (arith, length-filter (is_in_stream plan s) (levels_of plan), count_by-le-length (is_in_stream plan s) (levels_of plan), length-range_with_len 0 (length plan.fields), c.levels)

of_frame : (plan : Plan) (patches s : ℕ) → IsCountable plan → patches ≤ 256 → more_events plan patches s ≤ 16641
of_frame plan patches s c few = omega (arith, few, mul-le (length (stream_levels plan s)) patches 64 256 (few_levels plan s c) few)

of_item : (plan : Plan) (patches : ℕ) → IsCountable plan → patches ≤ 256 → (d : ℕ) (act : Act) → event_weight plan patches d act ≤ 16641
of_item plan patches c few d Start = omega (arith, few)
of_item plan patches c few d Force = omega (arith, few)
of_item plan patches c few d Feedback = omega (arith, few)
of_item plan patches c few d (Table n) = omega (arith, mul-le (length (item_halves (item_of plan n))) patches 2 256 (two_halves (item_of plan n)) few)
of_item plan patches c few d (Emit s) = of_frame plan patches s c few

pub events_fit : EventsFit
events_fit plan split c few =
    omega (
      arith,
      events plan split c.in_time,
      all_domains plan (event_weight plan (split.in_x * split.in_y)) 16641 c (of_item plan (split.in_x * split.in_y) c few),
      mul-le (more_restarts plan) (more_events plan (split.in_x * split.in_y) restart_stream) 8 16641 (few_restarts plan c) (of_frame plan (split.in_x * split.in_y) restart_stream c few),
    )
