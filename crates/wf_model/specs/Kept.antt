-- A patch's memory as it is kept: a list for each level beside the function that it holds.
use Rattle.std.specs.Prelude.{◌≡◌, ℕ, ◌+◌, ◌-◌, ◌*◌, List, [], length, ℤ, pos, ◌-ℤ◌, unsigned_abs}
use Rattle.std.specs.Prelude.{unwrap_or, slice_index_or, if◌then◌else◌, IsTrue}
use Rattle.wf_model.specs.declared.layout.Layout.{Layout}
use Rattle.wf_model.specs.declared.plan.Plan.{Plan}
use Rattle.wf_model.specs.Plans.{nz}
use Rattle.wf_model.specs.Patches.{Split, Cell, in_box, size_of, memory_box, kept_at}
use Rattle.wf_model.specs.PatchEffect.{Memory, Setting}
use Rattle.wf_model.specs.Sound.{IsDomain, IsLevel, IsSoundPlan, IsSoundLayout}
use Rattle.wf_model.specs.Agreement.{IsPatch, IsMemoryCell, cell_number}

-- ---- patches and their cells

-- a patch of a domain of a sound plan, on a sound layout
pub record IsSoundPatch (plan : Plan) (layout : Layout) (d p : ℕ) : Type 0 where
  pub sound : IsSoundPlan plan
  pub laid : IsSoundLayout plan layout
  pub domain : IsDomain plan d
  pub patch : IsPatch layout p

-- a cell that a patch keeps: of a level of the plan, and in the patch's memory
pub record IsKeptCell (plan : Plan) (split : Split) (d p : ℕ) (c : Cell) : Type 0 where
  pub field : IsLevel plan c.field
  pub within : IsMemoryCell plan split d p c

-- the same of a place of a level, whatever k
pub record IsKeptPlace (plan : Plan) (split : Split) (d p f : ℕ) (j i : ℤ) : Type 0 where
  pub field : IsLevel plan f
  pub within : IsTrue (in_box (memory_box plan split d p f) j i)

-- ---- memories and settings that are alike

-- two functions give the same number at each cell that the patch keeps
abbrev pub HoldAlike : Plan → Split → ℕ → ℕ → Memory → Memory → Type 0
HoldAlike plan split d p m n =
    (c : Cell) → IsKeptCell plan split d p c → cell_number m c ≡ cell_number n c

-- two settings set the same of those cells, to the same numbers or to none
pub record SetAlike (plan : Plan) (split : Split) (d p : ℕ) (a b : Setting) : Type 0 where
  pub sets : (c : Cell) → IsKeptCell plan split d p c →
      a.sets c.field c.k c.j c.i ≡ b.sets c.field c.k c.j c.i
  pub value : (c : Cell) → IsKeptCell plan split d p c → IsTrue (a.sets c.field c.k c.j c.i) →
      a.value c.field c.k c.j c.i ≡ b.value c.field c.k c.j c.i

-- ---- lists

-- how many cells of a level a patch keeps
abbrev pub kept_size : Plan → Split → ℕ → ℕ → ℕ → ℕ
kept_size plan split d p f =
    let b = memory_box plan split d p f in nz plan f * size_of b.y * size_of b.x

-- where the number of a cell stands in its level's list, in order k, j, i, from 0
abbrev pub kept_place : Plan → Split → ℕ → ℕ → Cell → ℕ
kept_place plan split d p c =
    let b = memory_box plan split d p c.field in
    ((c.k - 1) * size_of b.y + unsigned_abs (c.j -ℤ b.y.low)) * size_of b.x
    + unsigned_abs (c.i -ℤ b.x.low)

-- the list of a level
abbrev pub level_kept : List (List ℤ) → ℕ → List ℤ
level_kept lists f = slice_index_or lists f []

-- a list for each level, of all cells of its memory box, hold the function on the memory
pub record ShowsMemory (plan : Plan) (split : Split) (d p : ℕ) (lists : List (List ℤ))
    (m : Memory) : Type 0 where
  pub levels : length lists ≡ length plan.fields
  pub sizes : (f : ℕ) → IsLevel plan f → length (level_kept lists f) ≡ kept_size plan split d p f
  pub holds : (c : Cell) → IsKeptCell plan split d p c →
      kept_at plan split d p lists c.field c.k c.j c.i ≡ cell_number m c

-- lists after a setting: the cells that it sets have its numbers, all others their own
pub record SetsExactly (plan : Plan) (split : Split) (d p : ℕ) (s : Setting)
    (old new : List (List ℤ)) : Type 0 where
  pub levels : length new ≡ length old
  pub sizes : (f : ℕ) → IsLevel plan f → length (level_kept new f) ≡ length (level_kept old f)
  pub numbers : (c : Cell) → IsKeptCell plan split d p c →
      kept_at plan split d p new c.field c.k c.j c.i
      ≡ (if s.sets c.field c.k c.j c.i
      then unwrap_or (s.value c.field c.k c.j c.i) (pos 0)
      else kept_at plan split d p old c.field c.k c.j c.i)
