-- Points in boxes, and the box that two boxes share.
use Rattle.std.specs.Prelude.{◌↔◌, ℤ, ◌≤ℤ◌, ◌<ℤ◌}
use Rattle.std.specs.Int.{int_max, int_min}
use Rattle.wf_rect.specs.declared.rects.Rect.{Rect}

-- a box by its ends
abbrev pub box : ℤ → ℤ → ℤ → ℤ → Rect
box i0 i1 j0 j1 = record { i0 = i0; i1 = i1; j0 = j0; j1 = j1 }

-- a number from low up to high, without high
abbrev pub IsBetween : ℤ → ℤ → ℤ → Type 0
IsBetween low high c = (low ≤ℤ c) × (c <ℤ high)

-- a box has the point at j and i
pub record Holds (r : Rect) (j i : ℤ) : Type 0 where
  pub in_x : IsBetween r.i0 r.i1 i
  pub in_y : IsBetween r.j0 r.j1 j

-- from the greater of the beginnings to the lesser of the ends
abbrev pub shared : Rect → Rect → Rect
shared a b = record {
  i0 = int_max a.i0 b.i0;
  i1 = int_min a.i1 b.i1;
  j0 = int_max a.j0 b.j0;
  j1 = int_min a.j1 b.j1;
}

-- the shared box has a point exactly where both boxes have it
abbrev pub MeetingsAreIntersections : Type 0
MeetingsAreIntersections =
    (a b : Rect) (j i : ℤ) → Holds (shared a b) j i ↔ (Holds a j i × Holds b j i)
