-- The greatest numbers that limits let pass, and numbers past them.
use Rattle.std.specs.Prelude.{ℕ, ◌≡◌, true, false, List, [], ◌∷◌, pos, codes, map, Some, None}
use Rattle.std.specs.List.{range_with_len}
use Rattle.wf_model.specs.declared.plan.Plan.{Plan}
use Rattle.wf_model.specs.declared.plan.Domain.{Domain}
use Rattle.wf_model.specs.declared.plan.Field.{Field}
use Rattle.wf_model.specs.declared.plan.Item.{Item}
use Rattle.wf_model.specs.declared.plan.Item.TheVariants as item
use Rattle.wf_model.specs.declared.layout.Layout.{Layout}
use Rattle.wf_model.specs.declared.plan_fault.PlanFault.TheVariants.{Limit}
use Rattle.wf_model.specs.declared.plan_fault.Which.TheVariants as which
use Rattle.wf_model.specs.declared.plan_fault.LayoutFault.TheVariants as layout
use Rattle.wf_model.specs.Reading.{first_fault}
use Rattle.wf_model.specs.Counts.{script_items}
use Rattle.wf_model.specs.PlanTests.{limit_faults}
use Rattle.wf_model.specs.PlanOf.{layout_faults}
use Rattle.wf_model.specs.Weights.{HasDomainsInTime}
use Rattle.wf_model.specs.DemoCase.{case_domain, case_field, case_plan}
use Rattle.wf_cases.specs.CountCases.{every, patches}

-- ---- cells of memories: a periodic domain of 128 levels, whose halo reaches 6 cells

abbrev pub high_field : Field
high_field = record (case_field (codes "a") (codes "A")) { z = true; nz = 128; z_name = codes "z" }

abbrev pub wide_halo : List Item
wide_halo = item.Halo (record { field = 0; cross = false; radius = 6 } ∷ []) ∷ []

abbrev pub memories : ℕ → Plan
memories x = record (case_plan x 601 1 high_field wide_halo) {
  domains = record (case_domain x 601) { periodic_x = true; periodic_y = true } ∷ [];
}

abbrev pub tiled : ℕ → ℕ → ℕ → Layout
tiled x y tiles = record (patches x y) { tiles = tiles }

-- 128 by 2 patches: 339 + 128 * 12 cells in x, 601 + 2 * 12 in y, and 128 levels
pub record GreatestMemories : Type 0 where
  -- 256 patches, 64 tiles of each, 150,000,000 cells
  pub accepted : first_fault (layout_faults (memories 339) (tiled 128 2 64)) ≡ None
  pub patches_past : first_fault (layout_faults (memories 339) (tiled 257 1 64))
      ≡ Some (layout.TooManyPatches 1 257)
  pub tiles_past : first_fault (layout_faults (memories 340) (tiled 128 2 65))
      ≡ Some (layout.TooManyTiles 65)
  pub cells_past : first_fault (layout_faults (memories 340) (tiled 128 2 64))
      ≡ Some (layout.TooManyCells 150080000)
  -- as many patches in a direction as points, and one more
  pub columns : first_fault (layout_faults (memories 20) (tiled 20 1 1)) ≡ None
  pub columns_past : first_fault (layout_faults (memories 20) (tiled 21 1 1))
      ≡ Some (layout.TooManyPatches 1 21)

-- ---- events: in each step a swap of each of 250 patches

-- no frames
abbrev pub never : List ℕ
never = 0 ∷ 0 ∷ 0 ∷ 0 ∷ 0 ∷ 0 ∷ 0 ∷ 0 ∷ 0 ∷ 0 ∷ []

abbrev pub swaps : ℕ → Plan
swaps steps = record (case_plan 25 10 steps (case_field (codes "a") (codes "A"))
    (item.Swap 0 1 ∷ [])) {
      domains = record (case_domain 25 10) { intervals = never } ∷ [];
      fields = record (case_field (codes "a") (codes "A")) { pair = 1; last = false }
          ∷ case_field (codes "a") (codes "A") ∷ [];
    }

pub record GreatestEvents : Type 0 where
  pub in_time : (steps : ℕ) → HasDomainsInTime (swaps steps)
  pub accepted : first_fault (layout_faults (swaps 80000) (tiled 25 10 1)) ≡ None
  pub past : first_fault (layout_faults (swaps 80001) (tiled 25 10 1))
      ≡ Some (layout.TooManyEvents 20000250)

-- ---- items of the script: eight domains, each the nest of the one before it, with 11,111 steps of
-- ten items each

abbrev pub nest : ℕ → List ℕ → Domain
nest parent intervals = record (case_domain 3 3) {
  parent = parent;
  ratio = 1;
  intervals = intervals;
}

-- three streams of domain 1 have a frame at its start and after each step; the last domain has its
-- frames at these intervals
abbrev pub eight : List ℕ → Plan
eight last = record (case_plan 3 3 11111 (case_field (codes "a") (codes "A"))
    (map (λ n. item.Halo []) (range_with_len 0 10))) {
      domains = record (case_domain 3 3) { intervals = 1 ∷ 1 ∷ 1 ∷ 0 ∷ 0 ∷ 0 ∷ 0 ∷ 0 ∷ 0 ∷ 0 ∷ [] }
          ∷ nest 1 never ∷ nest 2 never ∷ nest 3 never ∷ nest 4 never ∷ nest 5 never ∷ nest 6 never
          ∷ nest 7 last ∷ [];
    }

pub record GreatestScripts : Type 0 where
  pub in_time : (last : List ℕ) → HasDomainsInTime (eight last)
  -- 888,880 items of tables, 33,336 frames, 7 starts and 77,777 forces
  pub accepted : script_items (eight never) ≡ 1000000
  -- the last domain has one frame, at its start
  pub past : first_fault (limit_faults (eight (every 20000)) (pos 1 ∷ []))
      ≡ Some (Limit which.Script (pos 1000001))
