-- The ranges of the numbers of plans and layouts: of namelist values, of the stencil table, and
-- the limits.
use Rattle.std.specs.Prelude.{◌≡◌, ℕ, ◌*◌, ◌^◌, ◌<◌, ◌≤◌, length, All, IsTrue, IsFalse}
use Rattle.wf_model.specs.declared.plan.Domain.{Domain}
use Rattle.wf_model.specs.declared.plan.Field.{Field}
use Rattle.wf_model.specs.declared.plan.HaloPart.{HaloPart}
use Rattle.wf_model.specs.declared.plan.PeriodPart.{PeriodPart}
use Rattle.wf_model.specs.declared.plan.Phase.{Phase}
use Rattle.wf_model.specs.declared.plan.Item.{Item}
use Rattle.wf_model.specs.declared.plan.Item.TheVariants as item
use Rattle.wf_model.specs.declared.layout.Layout.{Layout}
use Rattle.wf_model.specs.Letters.{is_name}
use Rattle.wf_model.specs.ExprFacts.{IsRangedExpr}

abbrev pub Within : ℕ → ℕ → ℕ → Type 0
Within low high n = (low ≤ n) × (n ≤ high)

-- e_we and e_sn
abbrev pub most_extent : ℕ
most_extent = 2000

-- e_vert, and any extent in z
abbrev pub most_levels : ℕ
most_levels = 128

pub record IsRangedDomain (x : Domain) : Type 0 where
  pub ide : Within 2 most_extent x.ide
  pub jde : Within 2 most_extent x.jde
  pub kde : Within 2 most_levels x.kde
  pub i_start : Within 1 most_extent x.i_start
  pub j_start : Within 1 most_extent x.j_start
  pub ratio : Within 1 15 x.ratio
  pub time_ratio : Within 1 16 x.time_ratio
  pub seconds : Within 1 3600 x.seconds
  -- ten streams. An interval is at most 100,000 minutes, in steps of a second at least
  pub interval_count : length x.intervals ≡ 10
  pub intervals : All (λ n. n ≤ 100000 * 60) x.intervals
  pub frame_count : length x.frames ≡ 10
  pub frames : All (Within 1 100000) x.frames

pub record IsRangedField (x : Field) : Type 0 where
  pub name : IsTrue (is_name x.name)
  pub dname : IsTrue (is_name x.dname)
  pub nz : Within 1 most_levels x.nz
  -- without a z letter it has one level, and is not staggered in z
  pub flat : IsFalse x.z → x.nz ≡ 1
  pub stag_z : IsTrue x.stag_z → IsTrue x.z
  pub streams : x.streams < 2 ^ 10
  -- a dataset's name, and none in z without a z letter
  pub x_name : IsTrue (is_name x.x_name)
  pub y_name : IsTrue (is_name x.y_name)
  pub z_name : IsTrue x.z → IsTrue (is_name x.z_name)
  pub description : length x.description ≤ 256
  pub units : length x.units ≤ 256

-- margins, levels and extend of a phase
pub record IsRangedPhase (ph : Phase) : Type 0 where
  pub name : IsTrue (is_name ph.name)
  pub mx : ph.mx ≤ 1000000
  pub my : ph.my ≤ 1000000
  pub levels : ph.from ≤ ph.to
  pub top : ph.to ≤ most_levels
  -- all levels, or named ones, from 1
  pub named : ph.from ≡ 0 → ph.to ≡ 0
  pub extend : ph.extend ≤ 6
  pub expr : IsRangedExpr ph.expr

abbrev pub IsRangedItem : Item → Type 0
IsRangedItem (item.Halo parts) = All (λ (p : HaloPart). Within 1 6 p.radius) parts
IsRangedItem (item.Period parts) = All (λ (p : PeriodPart). Within 1 6 p.width) parts
IsRangedItem (item.Swap one two) = Unit {0}
IsRangedItem (item.Phase ph) = IsRangedPhase ph

pub record IsRangedLayout (layout : Layout) : Type 0 where
  pub nproc_x : Within 1 most_extent layout.nproc_x
  pub nproc_y : Within 1 most_extent layout.nproc_y
  pub patches : layout.nproc_x * layout.nproc_y ≤ 256
  pub tiles : Within 1 64 layout.tiles
  pub groups : Within 1 16 layout.groups
  pub servers : Within 1 16 layout.servers
  pub depth : Within 1 64 layout.depth
  pub workers : Within 1 64 layout.workers
