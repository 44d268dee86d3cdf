-- The cells that a part of a halo or a period brings from one patch to another.
use Rattle.std.specs.Prelude.{◌≡◌, ℕ, ◌+◌, ◌≤◌, ◌==◌, Bool, not, ◌&&◌, ◌||◌, false, List, filter, ℤ}
use Rattle.std.specs.Prelude.{pos, IsTrue, if◌then◌else◌}
use Rattle.wf_model.specs.declared.layout.Layout.{Layout}
use Rattle.wf_model.specs.declared.plan.Plan.{Plan}
use Rattle.wf_model.specs.declared.plan.HaloPart.{HaloPart}
use Rattle.wf_model.specs.declared.plan.PeriodPart.{PeriodPart}
use Rattle.wf_model.specs.Plans.{domain_of, nx, ny, nz, wrapped}
use Rattle.std.specs.Int.{int_max, int_min}
use Rattle.wf_model.specs.Patches.{Split, Span, Box, Cell, in_span, in_box, grown_box, own_box}
use Rattle.wf_model.specs.Patches.{reached_box}
use Rattle.wf_model.specs.Agreement.{IsPatch}
use Rattle.wf_model.specs.Outcome.{RunData}
use Rattle.wf_model.specs.Shapes.{cell_owner, halo_cells, period_cells}
use Rattle.wf_model.specs.Sound.{IsDomain, IsLevel, IsSoundLayout}
use Rattle.wf_model.specs.SoundRun.{IsSoundRun}
use Rattle.wf_boxes.specs.Boxes.{HasNearEnds, IsWide, box_of}
use Rattle.wf_halo.specs.declared.parts.Between.{Between}
use Rattle.wf_halo.specs.declared.parts.Part.{Part}

-- the points from 1 to n
abbrev pub whole : ℕ → Span
whole n = record { low = pos 1; high = pos (n + 1) }

-- a place is a point of the domain
abbrev pub is_inside : Part → ℤ → ℤ → Bool
is_inside p j i = in_span (whole p.height) j && in_span (whole p.width) i

-- a cell lies as far around the receiver's own points as a halo goes
abbrev pub is_around : Part → ℤ → ℤ → Bool
is_around p j i =
    if p.cross
    then (in_box (grown_box 1 0 (box_of p.to)) j i || in_box (grown_box 0 1 (box_of p.to)) j i)
    else in_box (grown_box p.radius p.radius (box_of p.to)) j i

-- the part brings the cell: a period one outside the domain, and a halo one around the own points
abbrev pub is_fetched : Part → ℤ → ℤ → Bool
is_fetched p j i =
    if p.outside then not (is_inside p j i)
    else is_inside p j i && is_around p j i && not (in_box (box_of p.to) j i)

-- the row and the column, from 1, of the point that a cell stands for
abbrev pub row_of : Part → ℤ → ℕ
row_of p j = wrapped p.periodic_y p.height j

abbrev pub column_of : Part → ℤ → ℕ
column_of p i = wrapped p.periodic_x p.width i

-- the part brings the cell from the sender, which owns its point
abbrev pub is_sent : Part → ℤ → ℤ → Bool
is_sent p j i =
    is_fetched p j i && in_box (box_of p.from) (pos (row_of p j)) (pos (column_of p i))

-- a cell that stands for a point
pub record IsPlaceOf (p : Part) (j i : ℤ) : Type 0 where
  pub wide_j : IsWide j
  pub wide_i : IsWide i
  pub some : (1 ≤ p.width) × (1 ≤ p.height)
  pub in_y : IsTrue (p.periodic_y || in_span (whole p.height) j)
  pub in_x : IsTrue (p.periodic_x || in_span (whole p.width) i)

-- two patches of a domain of a sound run, and a level and a radius
pub record IsLink (r : RunData) (layout : Layout) (b : Between) (x : HaloPart) : Type 0 where
  pub sound : IsSoundRun r
  pub laid : IsSoundLayout r.plan layout
  pub domain : IsDomain r.plan b.domain
  pub receiver : IsPatch layout b.to
  pub sender : IsPatch layout b.from
  pub level : IsLevel r.plan x.field
  pub small : x.radius ≤ 6

-- what both boxes have
abbrev pub shared_box : Box → Box → Box
shared_box a b = record {
  x = record { low = int_max a.x.low b.x.low; high = int_min a.x.high b.x.high };
  y = record { low = int_max a.y.low b.y.low; high = int_min a.y.high b.y.high };
}

-- the cells that are walked: those that the receiver reaches, and of a halo the sender's own of
-- them
abbrev pub walked_box : Plan → Split → ℕ → ℕ → ℕ → HaloPart → Bool → Box
walked_box plan split d to from x outside =
    let reached = reached_box plan split d to x.field x.radius x.radius in
    if outside then reached else shared_box reached (own_box plan split d from x.field)

-- the part of a halo, or with `outside` of a period of that width, between two patches
pub record IsPart (plan : Plan) (split : Split) (d to from : ℕ) (x : HaloPart) (outside : Bool)
    (p : Part) : Type 0 where
  pub field : p.field ≡ x.field
  pub outer : p.outside ≡ outside
  pub cross : p.cross ≡ x.cross
  pub radius : p.radius ≡ x.radius
  pub small : x.radius ≤ 6
  pub width : p.width ≡ nx plan d x.field
  pub height : p.height ≡ ny plan d x.field
  pub some : (1 ≤ p.width) × (1 ≤ p.height)
  pub periodic_x : p.periodic_x ≡ (domain_of plan d).periodic_x
  pub periodic_y : p.periodic_y ≡ (domain_of plan d).periodic_y
  pub to_box : box_of p.to ≡ own_box plan split d to x.field
  pub from_box : box_of p.from ≡ own_box plan split d from x.field
  pub box : box_of p.cells.rect ≡ walked_box plan split d to from x outside
  pub first : p.cells.k0 ≡ 1
  pub last : p.cells.k1 ≡ nz plan x.field + 1
  pub near : HasNearEnds p.to
  pub ends : HasNearEnds p.cells.rect

-- a part of a period, as one of a halo
abbrev pub around : PeriodPart → HaloPart
around x = record { field = x.field; cross = false; radius = x.width }

-- the cells that a part brings from a patch
abbrev pub part_cells : Plan → Split → ℕ → ℕ → ℕ → Bool → HaloPart → List Cell
part_cells plan split d to from outside x =
    filter (λ c. cell_owner plan split d c == from)
    (if outside then period_cells plan split d to (record { field = x.field; width = x.radius })
    else halo_cells plan split d to x)
