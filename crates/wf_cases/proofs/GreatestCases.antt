-- The greatest numbers that limits let pass: small counts are computed, and long scripts are counted
-- by domains.
use Rattle.std.proofs.Common.{◌≡◌, ℕ, true, List, [], ◌∷◌, length, map, Option, Some, None, refl, ◌∙◌}
use Rattle.std.specs.Prelude.{flat_map, nat_lt, ℤ, pos}
use Rattle.std.specs.List.{range_with_len}
use Rattle.std.specs.Option.{option_or}
use Rattle.wf_model.specs.declared.plan.Plan.{Plan}
use Rattle.wf_model.specs.declared.layout.Layout.{Layout}
use Rattle.wf_model.specs.declared.plan_fault.LayoutFault.TheVariants.{TooManyTiles, TooManyCells, TooManyEvents}
use Rattle.wf_model.specs.declared.plan_fault.PlanFault.TheVariants.{Limit}
use Rattle.wf_model.specs.declared.plan_fault.Which.TheVariants as which
use Rattle.wf_model.specs.Plans.{domain_of, domains_of, field_of, item_of, begin_of, children}
use Rattle.wf_model.specs.Script.{step_of, script_of}
use Rattle.wf_model.specs.Streams.{stream_levels}
use Rattle.wf_model.specs.Reading.{fault_if, first_fault}
use Rattle.wf_model.specs.Reads.{margin_of}
use Rattle.wf_model.specs.Patches.{split_of, own_box, memory_box}
use Rattle.wf_model.specs.Halves.{halves_of}
use Rattle.wf_model.specs.Counts.{fresh_script, all_cells, script_items, memory_cells, all_events}
use Rattle.wf_model.specs.PlanOf.{patches_faults, layout_faults}
use Rattle.wf_model.specs.PlanTests.{extent_fault, file_fault, limit_faults}
use Rattle.wf_model.specs.Weights.{HasDomainsInTime}
use Rattle.wf_model.proofs.ReadingLemmas.{first_fault-append}
use Rattle.wf_count_laws.proofs.InTime.{tested}
use Rattle.wf_count_laws.proofs.ByDomains.{items_by_domains, events_by_domains}
use Rattle.wf_cases.specs.CountCases.{every}
use Rattle.wf_cases.specs.GreatestCases.{never, swaps, eight, tiled, GreatestMemories, GreatestEvents, GreatestScripts}

pub memories : GreatestMemories
unfolding layout_faults domain_of field_of item_of begin_of children step_of script_of stream_levels margin_of own_box memory_box halves_of fresh_script
memories = record { accepted = refl; patches_past = refl; tiles_past = refl; cells_past = refl; columns = refl; columns_past = refl }

-- where the other tests pass, the events decide
by_events : (plan : Plan) (l : Layout) (events : ℕ)
    → first_fault (flat_map (patches_faults plan l) (domains_of plan)) ≡ None
    → fault_if (nat_lt 64 l.tiles) (TooManyTiles l.tiles) ≡ None
    → fault_if (nat_lt 150000000 (memory_cells plan (split_of l))) (TooManyCells (memory_cells plan (split_of l))) ≡ None
    → all_events plan (split_of l) ≡ events
    → first_fault (layout_faults plan l) ≡ fault_if (nat_lt 20000000 events) (TooManyEvents events)
unfolding layout_faults
by_events plan l events patches tiles cells is =
    first_fault-append (flat_map (patches_faults plan l) (domains_of plan)) _
    ∙ (λ i. option_or (patches i) (option_or (tiles i) (option_or (cells i) (option_or (fault_if (nat_lt 20000000 (is i)) (TooManyEvents (is i))) None))))
    ∙ or_none (fault_if (nat_lt 20000000 events) (TooManyEvents events))
  where
    or_none : {F : Type 0} (o : Option F) → option_or o None ≡ o
    or_none None = refl
    or_none (Some f) = refl

swaps_in_time : (steps : ℕ) → HasDomainsInTime (swaps steps)
unfolding domain_of
swaps_in_time steps = (tested (swaps steps)).0 refl

events_of : (steps events : ℕ) → all_events (swaps steps) (split_of (tiled 25 10 1)) ≡ events
    → first_fault (layout_faults (swaps steps) (tiled 25 10 1)) ≡ fault_if (nat_lt 20000000 events) (TooManyEvents events)
unfolding domain_of field_of margin_of own_box memory_box
events_of steps events is = by_events (swaps steps) (tiled 25 10 1) events refl refl refl is

pub events : GreatestEvents
unfolding domain_of field_of item_of stream_levels
events = record {
  in_time = swaps_in_time;
  accepted = events_of 80000 20000000 (events_by_domains (swaps 80000) (split_of (tiled 25 10 1)) (swaps_in_time 80000));
  past = events_of 80001 20000250 (events_by_domains (swaps 80001) (split_of (tiled 25 10 1)) (swaps_in_time 80001));
}

eight_in_time : (last : List ℕ) → HasDomainsInTime (eight last)
unfolding domain_of
eight_in_time last = (tested (eight last)).0 refl

-- where the tests before it pass, too many items of the script are told
past_items : (plan : Plan) (zs : List ℤ) (items : ℕ)
    → fault_if (nat_lt 64 (length plan.fields)) (Limit which.Levels (pos (length plan.fields))) ≡ None
    → first_fault (map extent_fault zs) ≡ None
    → fault_if (nat_lt 50000000 (all_cells plan)) (Limit which.Cells (pos (all_cells plan))) ≡ None
    → script_items plan ≡ items → nat_lt 1000000 items ≡ true
    → first_fault (limit_faults plan zs) ≡ Some (Limit which.Script (pos items))
past_items plan zs items levels extents cells is over =
    let files = flat_map (λ d. map (file_fault plan d) (range_with_len 0 11)) (domains_of plan) in
    (λ i. option_or (levels i) (first_fault-append (map extent_fault zs) (fault_if (nat_lt 50000000 (all_cells plan)) (Limit which.Cells (pos (all_cells plan))) ∷ fault_if (nat_lt 1000000 (script_items plan)) (Limit which.Script (pos (script_items plan))) ∷ files) i))
    ∙ (λ i. option_or (extents i) (option_or (cells i) (option_or (fault_if (nat_lt 1000000 (is i)) (Limit which.Script (pos (is i)))) (first_fault files))))
    ∙ (λ i. option_or (fault_if (over i) (Limit which.Script (pos items))) (first_fault files))

pub scripts : GreatestScripts
unfolding domain_of field_of item_of
scripts = record {
  in_time = eight_in_time;
  accepted = items_by_domains (eight never) (eight_in_time never);
  past = past_items (eight (every 20000)) (pos 1 ∷ []) 1000001 refl refl refl (items_by_domains (eight (every 20000)) (eight_in_time (every 20000))) refl;
}
