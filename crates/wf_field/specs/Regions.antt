-- The cells of a level in a region.
use Rattle.std.specs.Prelude.{ℕ, ◌+◌, ◌-◌, ◌*◌, ◌==◌, ◌&&◌, Bool, nat_le, nat_lt, List, flat_map, ℤ}
use Rattle.std.specs.Prelude.{pos, ◌+ℤ◌, ◌-ℤ◌, unsigned_abs, Some, slice_index_or, IsTrue}
use Rattle.std.specs.List.{range_with_len}
use Rattle.wf_rect.specs.declared.rects.Rect.{Rect}
use Rattle.wf_rect.specs.declared.rects.Region.{Region}
use Rattle.wf_rect.specs.Tiles.{count_between, rows_of}
use Rattle.wf_model.specs.declared.layout.Layout.{Layout}
use Rattle.wf_model.specs.declared.plan.Plan.{Plan}
use Rattle.wf_model.specs.Patches.{Cell, in_box}
use Rattle.wf_model.specs.PatchEffect.{Setting}
use Rattle.wf_boxes.specs.Boxes.{HasNearEnds, box_of}
use Rattle.wf_field.specs.Kept.{KeptMemory, Keeps}
use Rattle.wf_field.specs.Settings.{cell_at}
use Rattle.wf_field.specs.Rows.{row_cells}

-- a region has the point at k, j and i
abbrev pub region_has : Region → ℕ → ℤ → ℤ → Bool
region_has r k j i = (nat_le r.k0 k && nat_lt k r.k1) && in_box (box_of r.rect) j i

-- a region of a level within a memory: its ends are near, and its patch keeps the cells
pub record KeepsRegion (plan : Plan) (layout : Layout) (m : KeptMemory) (f : ℕ) (r : Region)
    : Type 0 where
  pub ends : HasNearEnds r.rect
  pub cells : (k : ℕ) (j i : ℤ) → IsTrue (region_has r k j i)
      → Keeps plan layout m (cell_at f k j i)

-- how many cells a row of a region has
abbrev pub columns_of : Rect → ℕ
columns_of r = count_between r.i0 r.i1

-- how many points a region has
abbrev pub region_size : Region → ℕ
region_size r = (r.k1 - r.k0) * rows_of r.rect * columns_of r.rect

-- so many rows of cells of a level, from one on
abbrev pub plane_cells : ℕ → ℕ → Rect → ℕ → List Cell
plane_cells f k r n =
    flat_map (λ y. row_cells f k (r.j0 +ℤ pos y) r.i0 (columns_of r)) (range_with_len 0 n)

-- so many planes of a region
abbrev pub planes_cells : ℕ → Region → ℕ → List Cell
planes_cells f r n =
    flat_map (λ a. plane_cells f (r.k0 + a) r.rect (rows_of r.rect)) (range_with_len 0 n)

-- the cells of a level in a region, in order k, j, i
abbrev pub region_cells : ℕ → Region → List Cell
region_cells f r = planes_cells f r (r.k1 - r.k0)

-- the number of a cell of a region, in that order
abbrev pub region_number : Region → List ℤ → Cell → ℤ
region_number r values c =
    slice_index_or values (((c.k - r.k0) * rows_of r.rect + unsigned_abs (c.j -ℤ r.rect.j0))
    * columns_of r.rect + unsigned_abs (c.i -ℤ r.rect.i0)) (pos 0)

-- the cells of a level in a region are set to the first numbers of a list, in that order
abbrev pub region_setting : ℕ → Region → List ℤ → Setting
region_setting f r list = record {
  sets = λ g k j i. (g == f) && region_has r k j i;
  value = λ g k j i. Some (region_number r list (cell_at g k j i));
}
