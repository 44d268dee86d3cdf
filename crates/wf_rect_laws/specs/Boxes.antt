-- Boxes of points as boxes of a run.
use Rattle.std.specs.Prelude.{◌≡◌, ◌↔◌, ℕ, ℤ, pos, ◌+ℤ◌, IsTrue}
use Rattle.wf_model.specs.Patches.{Box, in_box, cut, tile_box}
use Rattle.wf_rect.specs.declared.rects.Rect.{Rect}
use Rattle.wf_rect.specs.Boxes.{Holds, box, shared}
use Rattle.wf_rect.specs.Tiles.{tile}

-- the box of a run with the same ends
abbrev pub box_of : Rect → Box
box_of r = record {
  x = record { low = r.i0; high = r.i1 };
  y = record { low = r.j0; high = r.j1 };
}

-- both have the same points
abbrev pub BoxesHoldAlike : Type 0
BoxesHoldAlike = (r : Rect) (j i : ℤ) → Holds r j i ↔ IsTrue (in_box (box_of r) j i)

-- the box of all points of a width and a height
abbrev pub all_points : ℕ → ℕ → Rect
all_points width height =
    box (pos 1) (pos width +ℤ pos 1) (pos 1) (pos height +ℤ pos 1)

-- what a box shares with all points is the box cut to them, as a memory's in straight directions
abbrev pub MeetingsAreCuts : Type 0
MeetingsAreCuts =
    (width height : ℕ) (r : Rect)
    → box_of (shared (all_points width height) r)
    ≡ record { x = cut 1 width (box_of r).x; y = cut 1 height (box_of r).y }

-- both have the same tiles
abbrev pub TileBoxesAreTiles : Type 0
TileBoxesAreTiles = (r : Rect) (n t : ℕ) → tile_box (box_of r) n t ≡ box_of (tile r n t)
