-- Regions and bounds of a phase in a domain, and what is wrong in them, as the code has them.
use Rattle.std.specs.Prelude.{ℕ, ◌+◌, ◌-◌, Bool, ◌&&◌, ◌||◌, List, [], ◌∷◌, map, find, ℤ, pos}
use Rattle.std.specs.Prelude.{int_lt, ◌+ℤ◌, Option, if◌then◌else◌}
use Rattle.std.specs.Option.{option_map}
use Rattle.wf_model.specs.declared.plan.Domain.{Domain}
use Rattle.wf_model.specs.declared.plan.Item.{Item}
use Rattle.wf_model.specs.declared.plan.Item.TheVariants as item
use Rattle.wf_model.specs.declared.plan.Phase.{Phase}
use Rattle.wf_model.specs.declared.plan.Plan.{Plan}
use Rattle.wf_model.specs.declared.plan_fault.PlanFault.{PlanFault}
use Rattle.wf_model.specs.declared.plan_fault.PlanFault.TheVariants.{ReadPastLevels, ReadPastEdge}
use Rattle.wf_model.specs.Patches as patches
use Rattle.wf_model.specs.Plans.{extra, field_of}
use Rattle.wf_model.specs.PlanTests.{Faults, extent_at, has_points, leaves, read_leaves}
use Rattle.wf_model.specs.PlanTests.{region_span, region_z}
use Rattle.wf_model.specs.Reading.{fault_if}
use Rattle.wf_model.specs.Reads.{Read, reads_of}
use Rattle.wf_plan_reads.specs.declared.bounds.Span.{Span}
use Rattle.wf_plan_reads.specs.declared.bounds.Bounds.{Bounds}
use Rattle.wf_plan_reads.specs.declared.bounds.Bounds.TheVariants as bounds

-- ---- a domain's own

-- how many points a field has
abbrev pub points_x : Plan → Domain → ℕ → ℕ
points_x plan dom f = dom.ide - 1 + extra (field_of plan f).stag_x dom.periodic_x

abbrev pub points_y : Plan → Domain → ℕ → ℕ
points_y plan dom f = dom.jde - 1 + extra (field_of plan f).stag_y dom.periodic_y

-- the points of a phase's region
abbrev pub span_x : Plan → Domain → Phase → patches.Span
span_x plan dom ph = region_span dom.periodic_x ph.mx (points_x plan dom ph.writes)

abbrev pub span_y : Plan → Domain → Phase → patches.Span
span_y plan dom ph = region_span dom.periodic_y ph.my (points_y plan dom ph.writes)

-- the phase has points
abbrev pub has_region_in : Plan → Domain → List ℤ → Phase → Bool
has_region_in plan dom zs ph = has_points (span_x plan dom ph)
    && (has_points (span_y plan dom ph) && has_points (region_z zs ph))

-- ---- bounds

-- a span from its low to its last number
abbrev pub span_of : Span → patches.Span
span_of s = record { low = s.low; high = s.last +ℤ pos 1 }

-- a read leaves the bounds
abbrev pub is_outside : Bounds → Read → Bool
is_outside (bounds.Levels plan extents span) r =
    (field_of plan.now r.field).z && leaves (span_of span) r.dk (extent_at extents.now r.field)
is_outside (bounds.Edges plan domain x y) r =
    read_leaves domain.now.periodic_x (span_of x) r.di (points_x plan.now domain.now r.field)
    || read_leaves domain.now.periodic_y (span_of y) r.dj (points_y plan.now domain.now r.field)

-- the level that the first read outside reads
abbrev pub first_of : (Read → Bool) → List Read → Option ℕ
first_of test rs = option_map (λ (r : Read). r.field) (find test rs)

-- ---- what is wrong

abbrev pub past_levels : Plan → Phase → ℕ → PlanFault
past_levels plan ph f = ReadPastLevels ph.name (field_of plan f).name

abbrev pub past_edge : Plan → ℕ → Phase → ℕ → PlanFault
past_edge plan d ph f = ReadPastEdge d ph.name (field_of plan f).name

-- a read leaves the levels
abbrev pub leaves_levels : Plan → List ℤ → Phase → Read → Bool
leaves_levels plan zs ph r =
    (field_of plan r.field).z && leaves (region_z zs ph) r.dk (extent_at zs r.field)

-- with the levels of a phase in a domain
abbrev pub levels_in : Plan → List ℤ → Domain → Phase → Faults
levels_in plan zs dom ph =
    fault_if (int_lt (extent_at zs ph.writes) (pos ph.to)) (past_levels plan ph ph.writes)
    ∷ (if has_region_in plan dom zs ph then map (λ (r : Read). fault_if (leaves_levels plan zs ph r)
    (past_levels plan ph r.field)) (reads_of ph.expr) else [])

-- a read leaves a domain in a direction that isn't periodic
abbrev pub leaves_edges : Plan → Domain → Phase → Read → Bool
leaves_edges plan dom ph r =
    read_leaves dom.periodic_x (span_x plan dom ph) r.di (points_x plan dom r.field)
    || read_leaves dom.periodic_y (span_y plan dom ph) r.dj (points_y plan dom r.field)

-- with the edges of a phase in a domain of this number
abbrev pub edges_in : Plan → List ℤ → ℕ → Domain → Phase → Faults
edges_in plan zs d dom ph =
    if has_region_in plan dom zs ph
    then map (λ (r : Read). fault_if (leaves_edges plan dom ph r) (past_edge plan d ph r.field))
    (reads_of ph.expr) else []

-- of an item, which has them where it is a phase
abbrev pub of_item : (Phase → Faults) → Item → Faults
of_item test (item.Phase ph) = test ph
of_item test other = []
