-- All patches of a domain.
use Rattle.std.specs.Prelude.{◌≡◌, ℕ, ◌-◌, ◌<◌, ◌≤◌, length}
use Rattle.wf_top.specs.declared.patch.Patch.{Patch}
use Rattle.wf_top.specs.declared.patches.Patches.{Patches}
use Rattle.wf_model.specs.declared.demo.Demo.{Demo}
use Rattle.wf_model.specs.Demo.{demo_value}
use Rattle.wf_top.specs.Memories.{Holds, Each, IsPatch}

-- one to nx patches, and room for a column between them
pub record IsDomain (all : Patches) : Type 0 where
  pub some : 0 < length all.patches.items
  pub most : length all.patches.items ≤ all.nx
  pub columns : all.nx ≤ 200
  pub row : 0 < all.ny
  pub rows : all.ny ≤ 200
  pub each : Each (IsPatch all.nx all.ny (length all.patches.items)) all.patches.items
  pub column : length all.column.items ≡ all.ny

-- the same points, and as many patches
pub record SameSize (old new : Patches) : Type 0 where
  pub nx : new.nx ≡ old.nx
  pub ny : new.ny ≡ old.ny
  pub count : length new.patches.items ≡ length old.patches.items

-- each patch's own columns hold one grid, and the columns beside them in the west and east others
abbrev pub AllHold : (own west east : ℕ → ℕ → ℕ) → Patches → Type 0
AllHold own west east all = Each (λ p patch. Holds all.ny own west east patch) all.patches.items

-- a patch holds the grid, its own columns after n steps, and those beside them after m
abbrev pub HoldSteps : Patches → ℕ → ℕ → Patch → Type 0
HoldSteps all n m patch = Holds all.ny (demo_value all.nx all.ny n) (demo_value all.nx all.ny m)
    (demo_value all.nx all.ny m) patch

-- so do all
abbrev pub HoldGrid : ℕ → ℕ → Patches → Type 0
HoldGrid n m all = Each (λ p patch. HoldSteps all n m patch) all.patches.items

-- the patches of a demo after its last step
pub record IsEnd (d : Demo) (all : Patches) : Type 0 where
  pub nx : d.nx ≡ all.nx
  pub ny : d.ny ≡ all.ny
  pub px : d.px ≡ length all.patches.items
  pub grid : HoldGrid d.steps (d.steps - 1) all
