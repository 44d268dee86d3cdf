-- The lockstep run and the front.
use Rattle.std.specs.Prelude.{◌≡◌, ℕ, ◌≤◌, length, map, flat_map, filter, nat_lt, fold, pos, ◌+ℤ◌}
use Rattle.wf_model.specs.declared.layout.Layout.{Layout}
use Rattle.wf_model.specs.Plans.{domains_of}
use Rattle.wf_model.specs.Outcome.{RunData, script}
use Rattle.wf_model.specs.Patches.{split_of, patches_of}
use Rattle.wf_model.specs.Halves.{halves_of}
use Rattle.wf_model.specs.Front.{front, halves_before}
use Rattle.wf_model.specs.Lockstep.{MemoryLine, lockstep_at, place_after, memory_after}
use Rattle.wf_model.specs.Lockstep.{memory_report, cells_of_patch}
use Rattle.wf_core_laws.specs.Patches.{IsDomainPatch}

-- before each place of the lockstep run each patch has the memory of the front, and is stopped
-- where the front stops it
abbrev pub LockstepRunIsTheFront : Type 0
LockstepRunIsTheFront =
    (r : RunData) (layout : Layout) → 1 ≤ length r.plan.domains → (n d p : ℕ) →
    IsDomainPatch r.plan layout d p →
    (((lockstep_at r layout n).patches d p).memory ≡ (front r layout n d p).memory)
    × (((lockstep_at r layout n).patches d p).is_stopped ≡ (front r layout n d p).is_stopped)

-- so a patch's memory after n of its halves is the front's before its next place
abbrev pub MemoryAfterHalvesIsTheFronts : Type 0
MemoryAfterHalvesIsTheFronts =
    (r : RunData) (layout : Layout) → 1 ≤ length r.plan.domains → (d p n : ℕ) →
    IsDomainPatch r.plan layout d p →
    memory_after r layout d p n ≡ (front r layout (place_after r layout d n) d p).memory

-- the line of a patch in the report, by the front at the script's end
abbrev pub front_line : RunData → Layout → ℕ → ℕ → MemoryLine
front_line r layout d p = record {
  domain = d;
  patch = p;
  cells = length (cells_of_patch r layout d p);
  sum = fold (λ a c. a +ℤ (front r layout (length (script r)) d p).memory c.field c.k c.j c.i)
      (pos 0) (cells_of_patch r layout d p);
}

-- and the memory report is that of the front
abbrev pub MemoryReportIsTheFronts : Type 0
MemoryReportIsTheFronts =
    (r : RunData) (layout : Layout) → 1 ≤ length r.plan.domains →
    memory_report r layout ≡ flat_map
    (λ d. map (front_line r layout d) (patches_of (split_of layout))) (domains_of r.plan)

-- the number of halves before a place counts a domain's halves that stand before it
abbrev pub HalvesBeforeAreCounted : Type 0
HalvesBeforeAreCounted = (r : RunData) (d n : ℕ) →
    halves_before r d n ≡ length (filter (λ x. nat_lt x.place n) (halves_of r d))
