-- Patches of a domain, counted row by row from 0, and the patch that owns a point.
use Rattle.std.specs.Prelude.{ℕ, ◌*◌, ◌/◌, ◌%◌, ◌<◌, ◌≤◌}
use Rattle.wf_rect.specs.Blocks.{HasPoint, IsTheOne}

-- patch p of nx by ny patches over a width and a height has the point at i and j, counted from 1
pub record IsInPatch (nx ny width height p i j : ℕ) : Type 0 where
  pub in_x : HasPoint (p % nx) nx width i
  pub in_y : HasPoint (p / nx) ny height j

-- each point has one patch, and no other one has it
abbrev pub PointsHaveOneOwner : Type 0
PointsHaveOneOwner =
    (nx ny width height i j : ℕ) → 0 < nx → 0 < ny → (1 ≤ i) × (i ≤ width)
    → (1 ≤ j) × (j ≤ height)
    → (p : ℕ) × IsTheOne (nx * ny) (λ q. IsInPatch nx ny width height q i j) p
