-- Phases whose reads pass the tests read within the levels and the extents.
use Rattle.std.proofs.Common.{◌≡◌, ℕ, ◌≤◌, true, false, List, [], length, map, Option, None, get_or, arith}
use Rattle.std.specs.Prelude.{ℤ, pos, ◌&&◌, ◌||◌, ◌==◌, int_lt, flat_map, if◌then◌else◌}
use Rattle.std.specs.List.{All, AllByRecursion}
use Rattle.std.proofs.lemmas.Bool.{and_parts, and_from, or_parts}
use Rattle.std.proofs.lemmas.List.Elements.{All-from_recursion}
use Rattle.wf_model.specs.declared.plan.Phase.{Phase}
use Rattle.wf_model.specs.declared.plan.Plan.{Plan}
use Rattle.wf_model.specs.declared.plan_fault.PlanFault.{PlanFault}
use Rattle.wf_model.specs.declared.plan_fault.PlanFault.TheVariants.{ReadPastLevels, ReadPastEdge}
use Rattle.wf_model.specs.Reading.{fault_if, first_fault}
use Rattle.wf_model.specs.Plans.{domain_of, field_of, domains_of, nx, ny, nz, is_inside}
use Rattle.wf_model.specs.Changes.{in_region, is_phase_level}
use Rattle.wf_model.specs.Patches.{is_place}
use Rattle.wf_model.specs.Reads.{Read, reads_of}
use Rattle.wf_model.specs.PlanTests.{extent_at, phases, region_x, region_y, region_z, has_points, has_region, leaves, read_leaves, levels_fault, edges_fault, phase_levels, phase_edges, read_faults}
use Rattle.wf_model.specs.Sound.{IsDomain, IsLevel, IsSoundRead, IsSoundPhase}
use Rattle.wf_registry_laws.proofs.Tests.{or_none, if_fails}
use Rattle.wf_plan_laws.specs.ReadLaws.{AreExtents, NamesLevels, ReadsAreSound}
use Rattle.wf_plan_laws.proofs.Passed.{both_pass, each_passes, each_of_two, in_range, where_true}
use Rattle.wf_plan_laws.proofs.Spans.{Lies, some_points, inside, stays, level_lies, level_read, above_ground, not_above}

-- ---- a point of a region

record LiesIn (plan : Plan) (zs : List ℤ) (d : ℕ) (ph : Phase) (k j i : ℕ) : Type 0 where
  x : Lies (region_x plan d ph) (pos i)
  y : Lies (region_y plan d ph) (pos j)
  z : Lies (region_z zs ph) (pos k)

point_lies : (plan : Plan) (zs : List ℤ) (d : ℕ) (ph : Phase) (k j i : ℕ) → AreExtents plan zs → in_region plan d ph k j i ≡ true → LiesIn plan zs d ph k j i
unfolding in_region
point_lies plan zs d ph k j i extents h =
    let level = is_phase_level plan ph k in
    let in_y = is_inside (domain_of plan d).periodic_y ph.my (ny plan d ph.writes) j in
    let in_x = is_inside (domain_of plan d).periodic_x ph.mx (nx plan d ph.writes) i in
    let p = and_parts (level && in_y) in_x h in
    let q = and_parts level in_y p.0 in
    record {
      x = inside (domain_of plan d).periodic_x ph.mx (nx plan d ph.writes) i p.1;
      y = inside (domain_of plan d).periodic_y ph.my (ny plan d ph.writes) j q.1;
      z = level_lies (ph.from == 0) (nz plan ph.writes) ph.from ph.to k (extent_at zs ph.writes) (extents.same ph.writes) q.0;
    }

region_there : (plan : Plan) (zs : List ℤ) (d : ℕ) (ph : Phase) (k j i : ℕ) → LiesIn plan zs d ph k j i → has_region plan zs d ph ≡ true
region_there plan zs d ph k j i h =
    and_from (has_points (region_x plan d ph)) (has_points (region_y plan d ph) && has_points (region_z zs ph)) (some_points (region_x plan d ph) (pos i) h.x)
    (and_from (has_points (region_y plan d ph)) (has_points (region_z zs ph)) (some_points (region_y plan d ph) (pos j) h.y) (some_points (region_z zs ph) (pos k) h.z))

-- ---- a read

-- the tests of a read, in a region that has points
record PassesRead (plan : Plan) (zs : List ℤ) (d : ℕ) (ph : Phase) (r : Read) : Type 0 where
  levels : has_region plan zs d ph ≡ true → levels_fault plan zs ph r ≡ None
  edges : has_region plan zs d ph ≡ true → edges_fault plan d ph r ≡ None

sound_read : (plan : Plan) (zs : List ℤ) (d : ℕ) (ph : Phase) (r : Read) → AreExtents plan zs → IsLevel plan r.field → PassesRead plan zs d ph r → IsSoundRead plan d ph r
unfolding is_place
sound_read plan zs d ph r extents level passes =
    let lies : (k j i : ℕ) → in_region plan d ph k j i ≡ true → LiesIn plan zs d ph k j i = λ k j i h. point_lies plan zs d ph k j i extents h in
    let has_z = (field_of plan r.field).z in
    let high : (k j i : ℕ) → LiesIn plan zs d ph k j i → (has_z && leaves (region_z zs ph) r.dk (extent_at zs r.field)) ≡ false =
    λ k j i h. if_fails (has_z && leaves (region_z zs ph) r.dk (extent_at zs r.field)) (ReadPastLevels ph.name (field_of plan r.field).name) (passes.levels (region_there plan zs d ph k j i h)) in
    record {
      level = level;
      inside = λ k j i h.
          let in_it = lies k j i h in
          let leaves_x = read_leaves (domain_of plan d).periodic_x (region_x plan d ph) r.di (nx plan d r.field) in
          let leaves_y = read_leaves (domain_of plan d).periodic_y (region_y plan d ph) r.dj (ny plan d r.field) in
          let p = or_parts leaves_x leaves_y (if_fails (leaves_x || leaves_y) (ReadPastEdge d ph.name (field_of plan r.field).name) (passes.edges (region_there plan zs d ph k j i in_it))) in
          and_from _ _ (stays (domain_of plan d).periodic_y (region_y plan d ph) r.dj (ny plan d r.field) (pos j) p.1 in_it.y)
          (stays (domain_of plan d).periodic_x (region_x plan d ph) r.di (nx plan d r.field) (pos i) p.0 in_it.x);
      levels = λ k j i h.
          let in_it = lies k j i h in
          level_read has_z (region_z zs ph) r.dk (nz plan r.field) (extent_at zs r.field) (pos k) (extents.same r.field) (extents.some r.field level) (high k j i in_it) in_it.z;
      above = λ k j i h t.
          let in_it = lies k j i h in
          above_ground has_z (region_z zs ph) r.dk (extent_at zs r.field) (pos k) (high k j i in_it) in_it.z t;
    }

-- ---- a phase

-- the tests of a phase in a domain
record PassesIn (plan : Plan) (zs : List ℤ) (d : ℕ) (ph : Phase) : Type 0 where
  levels : first_fault (phase_levels plan zs d ph) ≡ None
  edges : first_fault (phase_edges plan zs d ph) ≡ None

-- levels above the extent of the written field
abbrev top_fault : Plan → List ℤ → Phase → Option PlanFault
top_fault plan zs ph = fault_if (int_lt (extent_at zs ph.writes) (pos ph.to)) (ReadPastLevels ph.name (field_of plan ph.writes).name)

passes_read : (plan : Plan) (zs : List ℤ) (d : ℕ) (ph : Phase) → PassesIn plan zs d ph → All (PassesRead plan zs d ph) (reads_of ph.expr)
passes_read plan zs d ph h k none within = record {
  levels = λ t.
      let reads = map (levels_fault plan zs ph) (reads_of ph.expr) in
      let rest = (or_none (top_fault plan zs ph) (if has_region plan zs d ph then reads else []) h.levels).1 in
      All-from_recursion (λ r. levels_fault plan zs ph r ≡ None) (reads_of ph.expr)
      (each_passes (levels_fault plan zs ph) (reads_of ph.expr) (where_true (has_region plan zs d ph) reads rest t)) k none within;
  edges = λ t.
      All-from_recursion (λ r. edges_fault plan d ph r ≡ None) (reads_of ph.expr)
      (each_passes (edges_fault plan d ph) (reads_of ph.expr) (where_true (has_region plan zs d ph) (map (edges_fault plan d ph) (reads_of ph.expr)) h.edges t)) k none within;
}

sound_phase : (plan : Plan) (zs : List ℤ) (ph : Phase) → AreExtents plan zs → 1 ≤ length plan.domains → NamesLevels plan ph
    → ((d : ℕ) → IsDomain plan d → PassesIn plan zs d ph) → IsSoundPhase plan ph
sound_phase plan zs ph extents some names passes = record {
  writes = names.writes;
  top =
      let first : PassesIn plan zs 1 ph = passes 1 (omega arith, some) in
      not_above (extent_at zs ph.writes) (nz plan ph.writes) ph.to (extents.same ph.writes)
      (if_fails (int_lt (extent_at zs ph.writes) (pos ph.to)) (ReadPastLevels ph.name (field_of plan ph.writes).name) (or_none (top_fault plan zs ph) (if has_region plan zs 1 ph then map (levels_fault plan zs ph) (reads_of ph.expr) else []) first.levels).0);
  reads = λ d is k none within.
      sound_read plan zs d ph (get_or (reads_of ph.expr) k none) extents (names.reads k none within) (passes_read plan zs d ph (passes d is) k none within);
}

-- ---- all phases in all domains

-- what no test of a phase in a domain finds
each_domain : (plan : Plan) (F : ℕ → Phase → Type 0) → AllByRecursion (λ d. AllByRecursion (F d) (phases plan.items)) (domains_of plan)
    → (d : ℕ) → IsDomain plan d → All (F d) (phases plan.items)
each_domain plan F h d is =
    All-from_recursion (F d) (phases plan.items)
    (in_range (λ n. AllByRecursion (F n) (phases plan.items)) 1 (length plan.domains) h d is.0 (omega (arith, is.1)))

pub reads_are_sound : ReadsAreSound
unfolding read_faults
reads_are_sound plan zs extents some names e k none within =
    let tests = both_pass (flat_map (λ d. flat_map (phase_levels plan zs d) (phases plan.items)) (domains_of plan)) (flat_map (λ d. flat_map (phase_edges plan zs d) (phases plan.items)) (domains_of plan)) e in
    let levels = each_domain plan (λ d ph. first_fault (phase_levels plan zs d ph) ≡ None) (each_of_two (phase_levels plan zs) (domains_of plan) (phases plan.items) tests.0) in
    let edges = each_domain plan (λ d ph. first_fault (phase_edges plan zs d ph) ≡ None) (each_of_two (phase_edges plan zs) (domains_of plan) (phases plan.items) tests.1) in
    sound_phase plan zs (get_or (phases plan.items) k none) extents some (names k none within)
    (λ d is. record { levels = levels d is k none within; edges = edges d is k none within })
