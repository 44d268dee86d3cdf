-- Why there is no plan: the tests in their order, each by domain and then in Registry or
-- table order.
use Rattle.std.specs.Prelude.{ℕ, ◌+◌, ◌-◌, ◌*◌, ◌/◌, ◌%◌, ◌==◌, Bool, false, not, ◌&&◌, ◌||◌}
use Rattle.std.specs.Prelude.{nat_lt, List, [], ◌∷◌, ◌++◌, length, map, flat_map, filter, take, ℤ}
use Rattle.std.specs.Prelude.{pos, ◌+ℤ◌, ◌-ℤ◌, int_lt, int_le, Option, if◌then◌else◌, codes}
use Rattle.std.specs.Prelude.{slice_index_or, slice_index}
use Rattle.std.specs.List.{list_any, range_with_len}
use Rattle.std.specs.Int.{int_rem_euclid, int_max}
use Rattle.wf_model.specs.declared.namelist.Value.{Value}
use Rattle.wf_model.specs.declared.namelist.Value.TheVariants as value
use Rattle.wf_model.specs.declared.config.Config.{Config}
use Rattle.wf_model.specs.declared.registry.Entry.{Entry}
use Rattle.wf_model.specs.declared.plan.Domain.{Domain}
use Rattle.wf_model.specs.declared.plan.Plan.{Plan}
use Rattle.wf_model.specs.declared.plan.Phase.{Phase}
use Rattle.wf_model.specs.declared.plan.Item.{Item}
use Rattle.wf_model.specs.declared.plan.Item.TheVariants as item
use Rattle.wf_model.specs.declared.table.HookName.{HookName}
use Rattle.wf_model.specs.declared.plan_fault.PlanFault.{PlanFault}
use Rattle.wf_model.specs.declared.plan_fault.PlanFault.TheVariants.{NotBuilt, BadDate}
use Rattle.wf_model.specs.declared.plan_fault.PlanFault.TheVariants.{PastYear9999, BadParent}
use Rattle.wf_model.specs.declared.plan_fault.PlanFault.TheVariants.{BadRatio, NestSize, NestAtEdge}
use Rattle.wf_model.specs.declared.plan_fault.PlanFault.TheVariants.{NestPeriodic, StepNotWhole}
use Rattle.wf_model.specs.declared.plan_fault.PlanFault.TheVariants.{RunNotSteps, NestStart}
use Rattle.wf_model.specs.declared.plan_fault.PlanFault.TheVariants.{IntervalNotSteps, UnknownHook}
use Rattle.wf_model.specs.declared.plan_fault.PlanFault.TheVariants.{ReadPastLevels, ReadPastEdge}
use Rattle.wf_model.specs.declared.plan_fault.PlanFault.TheVariants.{Limit}
use Rattle.wf_model.specs.declared.plan_fault.Which.TheVariants as which
use Rattle.wf_model.specs.Reading.{fault_if}
use Rattle.wf_model.specs.Letters.{Text}
use Rattle.wf_model.specs.Config.{values_of}
use Rattle.wf_model.specs.Plans.{domain_of, field_of, domains_of, nx, ny}
use Rattle.wf_model.specs.Patches.{Span}
use Rattle.wf_model.specs.Reads.{Read, reads_of}
use Rattle.wf_model.specs.Dates.{is_date, seconds_before, last_moment}
use Rattle.wf_model.specs.Entries.{entry_levels}
use Rattle.wf_model.specs.PlanDomains.{amount, domain_total, start_moment, run_seconds, minutes}
use Rattle.wf_model.specs.PlanFields.{z_extents, lacks_hook}
use Rattle.wf_model.specs.Sizes.{most_bytes}
use Rattle.wf_model.specs.Counts.{all_cells, script_items, stream_bytes}

abbrev pub Faults : Type 0
Faults = List (Option PlanFault)

-- ---- what isn't built: each name that asks for it by such a value of some domain

-- a name, and which values ask for what isn't built
pub record Unbuilt : Type 0 where
  pub name : Text
  pub asks : Value → Bool

abbrev pub is_above : ℕ → Value → Bool
is_above n (value.Int m) = int_lt (pos n) m
is_above n v = false

abbrev pub is_set : Value → Bool
is_set (value.Logical b) = b
is_set v = false

-- before nests are built
abbrev pub until_nests : List Unbuilt
until_nests = record { name = codes "max_dom"; asks = is_above 1 } ∷ []

-- before restart and auxiliary streams are built
abbrev pub until_restart : List Unbuilt
until_restart =
    record { name = codes "restart"; asks = is_set }
    ∷ record { name = codes "restart_interval"; asks = is_above 0 }
    ∷ map (λ s.
    record { name = codes "auxhist" ++ ((48 + s) ∷ codes "_interval"); asks = is_above 0 })
    (range_with_len 1 9)

-- in the order in which they are named
abbrev pub unbuilt : List Unbuilt
unbuilt = until_nests ++ until_restart

-- values of domains past max_dom ask for nothing
abbrev pub unbuilt_fault : Config → Unbuilt → Option PlanFault
unbuilt_fault config u =
    fault_if (list_any u.asks (take (domain_total config) (values_of config.values u.name)))
    (NotBuilt u.name)

-- ---- domains and times: the rules, and the fault where one is broken

-- the start is a day of the years 1 to 9999
abbrev pub date_fault : Config → ℕ → Option PlanFault
date_fault config d = fault_if (not (is_date (start_moment config d).date)) (BadDate d)

-- the run ends within the year 9999
abbrev pub end_fault : Config → Option PlanFault
end_fault config = fault_if (nat_lt (seconds_before last_moment)
    (seconds_before (start_moment config 1) + run_seconds config)) PastYear9999

abbrev pub parent_of : Plan → ℕ → Domain
parent_of plan d = domain_of plan (domain_of plan d).parent

-- a nest's parent comes before it
abbrev pub parent_fault : Plan → ℕ → Option PlanFault
parent_fault plan d = fault_if
    (((domain_of plan d).parent == 0) || not (nat_lt (domain_of plan d).parent d)) (BadParent d)

-- the grid ratio is odd
abbrev pub ratio_fault : Plan → ℕ → Option PlanFault
ratio_fault plan d = fault_if ((domain_of plan d).ratio % 2 == 0) (BadRatio d)

abbrev pub is_multiple : ℕ → ℕ → Bool
is_multiple n of_this = n % of_this == 0

-- a nest covers whole cells of its parent, and has as many levels
abbrev pub size_fault : Plan → ℕ → Option PlanFault
size_fault plan d =
    let dom = domain_of plan d in
    fault_if (not (is_multiple (dom.ide - 1) dom.ratio && is_multiple (dom.jde - 1) dom.ratio
    && (dom.kde == (parent_of plan d).kde))) (NestSize d)

-- a nest from this parent point on, over so many of its cells, touches the parent's edge
abbrev pub at_edge : ℕ → ℕ → ℕ → Bool
at_edge start cells points = nat_lt start 2 || nat_lt points (start + cells)

-- a nest keeps clear of its parent's edge
abbrev pub edge_fault : Plan → ℕ → Option PlanFault
edge_fault plan d =
    let dom = domain_of plan d in
    fault_if (at_edge dom.i_start ((dom.ide - 1) / dom.ratio) ((parent_of plan d).ide - 1)
    || at_edge dom.j_start ((dom.jde - 1) / dom.ratio) ((parent_of plan d).jde - 1)) (NestAtEdge d)

-- no nest is periodic
abbrev pub periodic_fault : Plan → ℕ → Option PlanFault
periodic_fault plan d =
    fault_if ((domain_of plan d).periodic_x || (domain_of plan d).periodic_y) (NestPeriodic d)

-- a nest's steps fill its parent's
abbrev pub step_fault : Plan → ℕ → Option PlanFault
step_fault plan d = fault_if
    (not (is_multiple (parent_of plan d).seconds (domain_of plan d).time_ratio)) (StepNotWhole d)

-- steps fill the run
abbrev pub run_fault : Config → Plan → Option PlanFault
run_fault config plan =
    fault_if (not (is_multiple (run_seconds config) (domain_of plan 1).seconds)) RunNotSteps

-- with restart, a start before domain 1's counts as domain 1's
abbrev pub counted_start : Plan → ℤ → ℤ
counted_start plan t = if plan.restart then int_max (pos 0) t else t

abbrev pub is_zero : ℤ → Bool
is_zero t = int_le t (pos 0) && int_le (pos 0) t

-- a nest starts at a step of its parent, not before it, and not before domain 1 without restart
abbrev pub start_fault : Plan → ℕ → Option PlanFault
start_fault plan d =
    let t = (domain_of plan d).begins in
    fault_if (not (is_zero (int_rem_euclid t (pos (parent_of plan d).seconds)))
    || (int_lt (counted_start plan t) (counted_start plan (parent_of plan d).begins)
    || (not plan.restart && int_lt t (pos 0)))) (NestStart d)

-- steps fill the interval
abbrev pub interval_fault : Plan → ℕ → ℕ → ℕ → Option PlanFault
interval_fault plan d stream mins =
    fault_if (not (is_multiple (mins * 60) (domain_of plan d).seconds)) (IntervalNotSteps d stream)

-- the ten streams, and of domain 1 the restart files
abbrev pub interval_faults : Config → Plan → ℕ → Faults
interval_faults config plan d =
    map (λ s. interval_fault plan d s (slice_index (minutes config d) s)) (range_with_len 0 10)
    ++ (if d == 1 then interval_fault plan 1 10 (amount config (codes "restart_interval") 1) ∷ []
    else [])

-- a field is named by its first level
abbrev pub hook_fault : List HookName → Entry → Option PlanFault
hook_fault hooks e =
    fault_if (lacks_hook hooks e) (UnknownHook (slice_index_or (entry_levels e) 0 (codes "")))

-- ---- reads of a phase's points

-- the phases of a table
abbrev pub phases : List Item → List Phase
phases [] = []
phases (item.Phase ph ∷ rest) = ph ∷ phases rest
phases (other ∷ rest) = phases rest

-- the points of the region in a direction of so many points, without the high end
abbrev pub region_span : Bool → ℕ → ℕ → Span
region_span periodic margin n =
    let m = if periodic then 0 else margin in
    record { low = pos (m + 1); high = pos (n + 1) -ℤ pos m }

abbrev pub region_x : Plan → ℕ → Phase → Span
region_x plan d ph = region_span (domain_of plan d).periodic_x ph.mx (nx plan d ph.writes)

abbrev pub region_y : Plan → ℕ → Phase → Span
region_y plan d ph = region_span (domain_of plan d).periodic_y ph.my (ny plan d ph.writes)

-- a level's extent in z
abbrev pub extent_at : List ℤ → ℕ → ℤ
extent_at zs f = slice_index_or zs f (pos 0)

-- the levels that are named, or all
abbrev pub region_z : List ℤ → Phase → Span
region_z zs ph =
    if ph.from == 0 then record { low = pos 1; high = extent_at zs ph.writes +ℤ pos 1 }
    else record { low = pos ph.from; high = pos (ph.to + 1) }

-- the span isn't empty
abbrev pub has_points : Span → Bool
has_points s = int_lt s.low s.high

-- the phase has points in the domain
abbrev pub has_region : Plan → List ℤ → ℕ → Phase → Bool
has_region plan zs d ph = has_points (region_x plan d ph)
    && (has_points (region_y plan d ph) && has_points (region_z zs ph))

-- a span moved by so much leaves 1 to n
abbrev pub leaves : Span → ℤ → ℤ → Bool
leaves s by n = int_lt (s.low +ℤ by) (pos 1) || int_lt (n +ℤ pos 1) (s.high +ℤ by)

-- a read keeps within the levels
abbrev pub levels_fault : Plan → List ℤ → Phase → Read → Option PlanFault
levels_fault plan zs ph r =
    fault_if ((field_of plan r.field).z && leaves (region_z zs ph) r.dk (extent_at zs r.field))
    (ReadPastLevels ph.name (field_of plan r.field).name)

-- levels above the extent of the written field, and then its reads
abbrev pub phase_levels : Plan → List ℤ → ℕ → Phase → Faults
phase_levels plan zs d ph =
    fault_if (int_lt (extent_at zs ph.writes) (pos ph.to))
    (ReadPastLevels ph.name (field_of plan ph.writes).name)
    ∷ (if has_region plan zs d ph then map (levels_fault plan zs ph) (reads_of ph.expr) else [])

-- a read leaves a direction that isn't periodic
abbrev pub read_leaves : Bool → Span → ℤ → ℕ → Bool
read_leaves periodic s by n = not periodic && leaves s by (pos n)

-- a read keeps within the domain
abbrev pub edges_fault : Plan → ℕ → Phase → Read → Option PlanFault
edges_fault plan d ph r =
    fault_if (read_leaves (domain_of plan d).periodic_x (region_x plan d ph) r.di
    (nx plan d r.field)
    || read_leaves (domain_of plan d).periodic_y (region_y plan d ph) r.dj (ny plan d r.field))
    (ReadPastEdge d ph.name (field_of plan r.field).name)

abbrev pub phase_edges : Plan → List ℤ → ℕ → Phase → Faults
phase_edges plan zs d ph =
    if has_region plan zs d ph then map (edges_fault plan d ph) (reads_of ph.expr) else []

-- ---- limits

-- an extent in z is 1 to 128
abbrev pub extent_fault : ℤ → Option PlanFault
extent_fault z = fault_if (int_lt z (pos 1) || int_lt (pos 128) z) (Limit which.Extent z)

-- the size of the files of a stream of a domain
abbrev pub file_fault : Plan → ℕ → ℕ → Option PlanFault
file_fault plan d s = fault_if (nat_lt (most_bytes plan.version) (stream_bytes plan d s))
    (Limit which.FileBytes (pos (stream_bytes plan d s)))

-- levels, extents, cells, items of the script, bytes of files
abbrev pub limit_faults : Plan → List ℤ → Faults
limit_faults plan zs =
    fault_if (nat_lt 64 (length plan.fields)) (Limit which.Levels (pos (length plan.fields)))
    ∷ map extent_fault zs
    ++ fault_if (nat_lt 50000000 (all_cells plan)) (Limit which.Cells (pos (all_cells plan)))
    ∷ fault_if (nat_lt 1000000 (script_items plan)) (Limit which.Script (pos (script_items plan)))
    ∷ flat_map (λ d. map (file_fault plan d) (range_with_len 0 11)) (domains_of plan)

-- ---- all tests

abbrev pub nests_of : Plan → List ℕ
nests_of plan = filter (nat_lt 1) (domains_of plan)

-- of domains and times, in order
unfoldable pub domain_faults : Config → Plan → Faults
domain_faults config plan =
    let nests = nests_of plan in
    map (date_fault config) (domains_of plan)
    ++ (end_fault config ∷ [])
    ++ map (parent_fault plan) nests
    ++ map (ratio_fault plan) nests
    ++ map (size_fault plan) nests
    ++ map (edge_fault plan) nests
    ++ map (periodic_fault plan) nests
    ++ map (step_fault plan) nests
    ++ (run_fault config plan ∷ [])
    ++ map (start_fault plan) nests
    ++ flat_map (interval_faults config plan) (domains_of plan)

-- of what phases read: levels, and then edges
unfoldable pub read_faults : Plan → List ℤ → Faults
read_faults plan zs =
    flat_map (λ d. flat_map (phase_levels plan zs d) (phases plan.items)) (domains_of plan)
    ++ flat_map (λ d. flat_map (phase_edges plan zs d) (phases plan.items)) (domains_of plan)

-- of what phases read, and of limits
unfoldable pub item_faults : Plan → List ℤ → Faults
item_faults plan zs = read_faults plan zs ++ limit_faults plan zs

-- all tests but those of what isn't built, in order. Stored functions of levels are tested once
-- nests are built
unfoldable pub sound_faults : Config → List HookName → Plan → Faults
sound_faults config hooks plan =
    domain_faults config plan ++ map (hook_fault hooks) config.fields
    ++ item_faults plan (z_extents config)

-- all tests, in order: what isn't built comes first. Stored functions of levels count once nests
-- are built
unfoldable pub plan_faults : Config → Plan → Faults
plan_faults config plan = map (unbuilt_fault config) unbuilt ++ domain_faults config plan
    ++ item_faults plan (z_extents config)
