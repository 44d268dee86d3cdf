-- The halo rule's walk back from a read, and the marks carried forward.
use Rattle.std.specs.Prelude.{◌≡◌, ℕ, zero, suc, ◌+◌, ◌*◌, ◌<◌, Bool, not, ◌||◌, List, [], ◌∷◌}
use Rattle.std.specs.Prelude.{◌++◌, length, reverse, take, drop, ℤ, ◌+ℤ◌, IsTrue, IsFalse}
use Rattle.std.specs.List.{All, Contains}
use Rattle.wf_model.specs.declared.layout.Layout.{Layout}
use Rattle.wf_model.specs.declared.plan.Plan.{Plan}
use Rattle.wf_model.specs.Plans.{level_at}
use Rattle.wf_model.specs.Patches.{Split, split_of, fine, is_own, computes}
use Rattle.wf_model.specs.Cycle.{Turn, forced, fed, cycle_of, before_items}
use Rattle.wf_model.specs.Marks.{all_fresh, marks_after, is_fresh}
use Rattle.wf_model.specs.Covered.{Asked, all_asked, walk, looked_back, IsReadCovered, IsCovered}
use Rattle.wf_model.specs.Uncovered.{is_read_covered}
use Rattle.wf_model.specs.Sound.{IsLevel, IsDomain, IsSoundPlan, IsSoundLayout}
use Rattle.wf_model.specs.Agreement.{IsPatch}

-- the marks after some items, from all fresh, are what the walk back over them finds
abbrev pub MarksAgreeWithTheWalk : Type 0
MarksAgreeWithTheWalk =
    (plan : Plan) (split : Split) (d p f k : ℕ) (j i : ℤ) (ts : List Turn) →
    marks_after plan split d p ts all_fresh f k j i ≡ walk plan split d p k j i (reverse ts) f

-- the second list is the first with some forces and feedbacks left out
pub data LeavesOut : List Turn → List Turn → Type 0 where
  none : LeavesOut [] []
  keeps : {t : Turn} {ts us : List Turn} → LeavesOut ts us → LeavesOut (t ∷ ts) (t ∷ us)
  no_force : {ts us : List Turn} → LeavesOut ts us → LeavesOut (forced ∷ ts) us
  no_feedback : {ts us : List Turn} → LeavesOut ts us → LeavesOut (fed ∷ ts) us

-- a walk that ends in yes does so with some forces and feedbacks left out
abbrev pub LeavingOutLosesNothing : Type 0
LeavingOutLosesNothing =
    (plan : Plan) (split : Split) (d p f k : ℕ) (j i : ℤ) (ts us : List Turn) → LeavesOut ts us →
    IsTrue (walk plan split d p k j i ts f) → IsTrue (walk plan split d p k j i us f)

-- and with fewer items to look back at
abbrev pub LookingLessFarLosesNothing : Type 0
LookingLessFarLosesNothing =
    (plan : Plan) (split : Split) (d p f k : ℕ) (j i : ℤ) (ts us : List Turn) →
    IsTrue (walk plan split d p k j i (ts ++ us) f) → IsTrue (walk plan split d p k j i ts f)

-- the items so many times
abbrev pub times : ℕ → List Turn → List Turn
times zero ts = []
times (suc n) ts = ts ++ times n ts

-- a whole cycle, backwards from a place
abbrev pub round : List Turn → ℕ → List Turn
round turns at = reverse (take at turns) ++ reverse (drop at turns)

-- a walk that ends in yes over two whole cycles does so over any number of them
abbrev pub TwoCyclesAreEnough : Type 0
TwoCyclesAreEnough =
    (plan : Plan) (split : Split) (d p f k : ℕ) (j i : ℤ) (at n : ℕ) → IsSoundPlan plan →
    IsLevel plan f →
    IsTrue (walk plan split d p k j i (looked_back (cycle_of plan d) at) f) →
    IsTrue (walk plan split d p k j i (times n (round (cycle_of plan d) at)) f)

-- where a patch of a layout computes the point at k, j and i, the cell that is read is own, or the
-- walk ends in yes
abbrev pub is_cell_covered_in : Plan → Split → Asked → ℕ → ℕ → ℤ → ℤ → Bool
is_cell_covered_in plan split a p k j i =
    not (computes plan split a.domain p a.phase k j i)
    || (is_own plan split a.domain p a.read.field (j +ℤ a.read.dj) (i +ℤ a.read.di)
    || walk plan split a.domain p (level_at plan a.read.field k a.read.dk) (j +ℤ a.read.dj)
    (i +ℤ a.read.di)
    (looked_back (cycle_of plan a.domain) (length (before_items a.domain) + a.item)) a.read.field)

-- what is covered in the finest layout is covered in any layout
abbrev pub CoveredInEachLayout : Type 0
CoveredInEachLayout =
    (plan : Plan) (layout : Layout) (a : Asked) (p k : ℕ) (j i : ℤ) → IsSoundPlan plan →
    IsSoundLayout plan layout → IsCovered plan → Contains (all_asked plan) a →
    IsPatch layout p →
    IsTrue (is_cell_covered_in plan (split_of layout) a p k j i)

-- the own points of a patch are own points of another layout's patch
abbrev pub IsPartOf : Plan → Split → Split → ℕ → ℕ → ℕ → Type 0
IsPartOf plan small big d q p =
    (f : ℕ) (j i : ℤ) → IsTrue (is_own plan small d q f j i) → IsTrue (is_own plan big d p f j i)

-- over items of a domain's cycle, what is fresh for a patch of one point is fresh for each patch
-- that it is part of
abbrev pub FreshForThePartIsFreshForTheWhole : Type 0
FreshForThePartIsFreshForTheWhole =
    (plan : Plan) (layout : Layout) (d q p f k : ℕ) (j i : ℤ) (ts : List Turn) → IsSoundPlan plan →
    IsSoundLayout plan layout → IsDomain plan d → q < (fine plan d).in_x * (fine plan d).in_y →
    IsPatch layout p →
    IsPartOf plan (fine plan d) (split_of layout) d q p → All (Contains (cycle_of plan d)) ts →
    IsTrue (is_fresh plan (fine plan d) d q
    (marks_after plan (fine plan d) d q ts all_fresh) f k j i) →
    IsTrue (is_fresh plan (split_of layout) d p
    (marks_after plan (split_of layout) d p ts all_fresh) f k j i)

-- the test of a read, over the points that patches may compute, is the rule
abbrev pub ReadTestIsTheRule : Type 0
ReadTestIsTheRule =
    (plan : Plan) (a : Asked) → IsSoundPlan plan → Contains (all_asked plan) a →
    (IsTrue (is_read_covered plan a) → IsReadCovered plan a)
    × (IsReadCovered plan a → IsTrue (is_read_covered plan a))

-- two whole cycles of a domain, and a third up to a place
abbrev pub third_cycle : Plan → ℕ → ℕ → List Turn
third_cycle plan d at = cycle_of plan d ++ cycle_of plan d ++ take at (cycle_of plan d)

-- a patch of the finest layout that computes a point in its domain's third cycle and reads a cell
-- that is not fresh
pub record ReadsAStaleCell (plan : Plan) (a : Asked) : Type 0 where
  pub patch : ℕ
  pub k : ℕ
  pub j : ℤ
  pub i : ℤ
  pub below : patch < (fine plan a.domain).in_x * (fine plan a.domain).in_y
  pub computed : IsTrue (computes plan (fine plan a.domain) a.domain patch a.phase k j i)
  pub stale : IsFalse (is_fresh plan (fine plan a.domain) a.domain patch
      (marks_after plan (fine plan a.domain) a.domain patch
      (third_cycle plan a.domain (length (before_items a.domain) + a.item)) all_fresh)
      a.read.field (level_at plan a.read.field k a.read.dk) (j +ℤ a.read.dj) (i +ℤ a.read.di))

-- a read that the rule refuses meets such a cell
abbrev pub RefusedReadsAreStale : Type 0
RefusedReadsAreStale = (plan : Plan) (a : Asked) → IsSoundPlan plan → Contains (all_asked plan) a →
    (IsReadCovered plan a → ⊥) → ReadsAStaleCell plan a
