-- Blocks, patches and owners.
use Rattle.std.specs.Prelude.{◌≡◌, ℕ, ◌+◌, ◌*◌, ◌<◌, ◌≤◌, pos, IsTrue}
use Rattle.wf_model.specs.declared.layout.Layout.{Layout}
use Rattle.wf_model.specs.declared.plan.Plan.{Plan}
use Rattle.wf_model.specs.Plans.{nx, ny}
use Rattle.wf_model.specs.Patches.{Cell, split_of, in_span, block, is_own, is_in_domain, owner_of}
use Rattle.wf_model.specs.Sound.{IsDomain, IsSoundLayout}
use Rattle.wf_model.specs.Agreement.{IsPatch, IsOwnCell, IsMemoryCell}

-- the one number below n that passes a test
pub record IsTheOne (n : ℕ) (test : ℕ → Type 0) (p : ℕ) : Type 0 where
  pub below : p < n
  pub passes : test p
  pub alone : (q : ℕ) → q < n → test q → q ≡ p

-- each place of a length, and of the extra points past it, lies in one of its blocks and in
-- no other
abbrev pub BlocksAreDisjointAndComplete : Type 0
BlocksAreDisjointAndComplete =
    (n len more c : ℕ) → 1 ≤ n → 1 ≤ len → 1 ≤ c → c ≤ len + more →
    (p : ℕ) × IsTheOne n (λ q. IsTrue (in_span (block q n len more) (pos c))) p

-- each point of a domain is an own point of its owner and of no other patch
abbrev pub EachPointHasOneOwner : Type 0
EachPointHasOneOwner =
    (plan : Plan) (layout : Layout) (d f j i : ℕ) → IsSoundLayout plan layout → IsDomain plan d →
    (1 ≤ j) × (j ≤ ny plan d f) → (1 ≤ i) × (i ≤ nx plan d f) →
    IsTheOne (layout.nproc_x * layout.nproc_y)
    (λ p. IsTrue (is_own plan (split_of layout) d p f (pos j) (pos i)))
    (owner_of plan (split_of layout) d f j i)

-- each own cell is a point of its domain, and a cell of the patch's memory
abbrev pub OwnCellsArePoints : Type 0
OwnCellsArePoints =
    (plan : Plan) (layout : Layout) (d p : ℕ) (c : Cell) → IsSoundLayout plan layout →
    IsDomain plan d → IsPatch layout p → IsOwnCell plan (split_of layout) d p c →
    IsTrue (is_in_domain plan d c.field c.j c.i) × IsMemoryCell plan (split_of layout) d p c
