-- The cells of a part, walked row by row: what is sent of them, and what is set.
use Rattle.std.specs.Prelude.{◌≡◌, ℕ, ◌<◌, ◌≤◌, ◌||◌, List, length, map, filter, ℤ, pos}
use Rattle.std.specs.Prelude.{slice_index_or, IsTrue}
use Rattle.wf_model.specs.declared.layout.Layout.{Layout}
use Rattle.wf_model.specs.declared.plan.Plan.{Plan}
use Rattle.wf_model.specs.Patches.{Cell, in_span}
use Rattle.wf_model.specs.PatchEffect.{Memory}
use Rattle.wf_boxes.specs.Boxes.{HasNearEnds, box_of}
use Rattle.wf_field.specs.Kept.{KeptMemory, Keeps}
use Rattle.wf_field.specs.Rows.{SetsEach}
use Rattle.wf_field.specs.Settings.{cell_at}
use Rattle.wf_halo.specs.declared.parts.Part.{Part}
use Rattle.wf_halo.specs.Parts.{column_of, is_sent, row_of, whole}

-- a part whose cells stand for points, and have ends that are near
pub record IsWalked (p : Part) : Type 0 where
  pub near : HasNearEnds p.to
  pub ends : HasNearEnds p.cells.rect
  pub radius : p.radius ≤ 6
  pub some : (1 ≤ p.width) × (1 ≤ p.height)
  pub rows : (j : ℤ) → IsTrue (in_span (box_of p.cells.rect).y j) →
      IsTrue (p.periodic_y || in_span (whole p.height) j)
  pub columns : (i : ℤ) → IsTrue (in_span (box_of p.cells.rect).x i) →
      IsTrue (p.periodic_x || in_span (whole p.width) i)

-- a level, a row and a column of its cells
abbrev pub IsLevelOf : Part → ℕ → Type 0
IsLevelOf p k = (p.cells.k0 ≤ k) × (k < p.cells.k1)

abbrev pub IsRowOf : Part → ℤ → Type 0
IsRowOf p j = IsTrue (in_span (box_of p.cells.rect).y j)

abbrev pub IsColumnOf : Part → ℤ → Type 0
IsColumnOf p i = IsTrue (in_span (box_of p.cells.rect).x i)

-- what holds of each cell that the part brings
abbrev pub EachSent : Part → (ℕ → ℤ → ℤ → Type 0) → Type 0
EachSent p holds =
    (k : ℕ) (j i : ℤ) → IsLevelOf p k → IsRowOf p j → IsColumnOf p i → IsTrue (is_sent p j i)
    → holds k j i

-- a memory keeps the points of them
abbrev pub KeepsPoints : Plan → Layout → KeptMemory → Part → Type 0
KeepsPoints plan layout m p =
    EachSent p (λ k j i.
    Keeps plan layout m (cell_at p.field k (pos (row_of p j)) (pos (column_of p i))))

-- a memory keeps them
abbrev pub KeepsCells : Plan → Layout → KeptMemory → Part → Type 0
KeepsCells plan layout m p = EachSent p (λ k j i. Keeps plan layout m (cell_at p.field k j i))

-- those of some cells that the part brings
abbrev pub sent : Part → List Cell → List Cell
sent p cells = filter (λ (c : Cell). is_sent p c.j c.i) cells

-- the number of the point that a cell stands for
abbrev pub sent_number : Part → Memory → Cell → ℤ
sent_number p m c = m c.field c.k (pos (row_of p c.j)) (pos (column_of p c.i))

-- their numbers, in a memory
abbrev pub sent_numbers : Part → Memory → List Cell → List ℤ
sent_numbers p m cells = map (sent_number p m) (sent p cells)

-- a list begins with another one
abbrev pub Begins : List ℤ → List ℤ → Type 0
Begins xs ys =
    (m : ℕ) → m < length ys → slice_index_or xs m (pos 0) ≡ slice_index_or ys m (pos 0)

-- the cells are set, and no others: each to its number, where the list begins with their numbers
abbrev pub SetsBy : Plan → Layout → List ℤ → List Cell → KeptMemory → KeptMemory → Type 0
SetsBy plan layout values cells old new =
    (v : Cell → ℤ) → Begins values (map v cells) → SetsEach plan layout v cells old new
