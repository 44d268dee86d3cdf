-- The sizes of all field levels of a domain.
use Rattle.std.specs.Prelude.{◌≡◌, ℕ, ◌≤◌, ◌||◌, length, false, slice_index_or}
use Rattle.wf_model.specs.declared.plan.Plan.{Plan}
use Rattle.wf_model.specs.Plans.{domain_of, field_of}
use Rattle.wf_model.specs.Sound.{IsLevel}
use Rattle.wf_grid.specs.declared.sizes.LevelSize.{LevelSize}
use Rattle.wf_grid.specs.declared.sizes.Sizes.{Sizes}
use Rattle.wf_grid.specs.Filled.{AreExtents}

-- the size of a level
pub record IsSize (plan : Plan) (d f : ℕ) (s : LevelSize) : Type 0 where
  pub extents : AreExtents plan d f s.extents
  pub z : s.z ≡ (field_of plan f).z

-- the size that stands for none
unfoldable pub no_size : LevelSize
no_size = record { extents = record { columns = 0; rows = 0; levels = 0 }; z = false }

-- the sizes of all levels
pub record AreSizes (plan : Plan) (d : ℕ) (s : Sizes) : Type 0 where
  pub periodic_x : s.periodic_x ≡ (domain_of plan d).periodic_x
  pub periodic_y : s.periodic_y ≡ (domain_of plan d).periodic_y
  pub wraps : s.wraps ≡ ((domain_of plan d).periodic_x || (domain_of plan d).periodic_y)
  pub room : length plan.fields ≤ 64
  pub each : (f : ℕ) → IsLevel plan f → IsSize plan d f (slice_index_or s.levels f no_size)
