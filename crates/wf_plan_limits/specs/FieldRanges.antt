-- The ranges of a field in groups.
use Rattle.std.specs.Prelude.{◌≡◌, ◌^◌, ◌<◌, ◌≤◌, length, IsTrue, IsFalse}
use Rattle.wf_model.specs.declared.plan.Field.{Field}
use Rattle.wf_model.specs.Letters.{is_name}
use Rattle.wf_model.specs.Ranges.{Within, most_levels}

-- of its levels in z
pub record HasRangedLevels (x : Field) : Type 0 where
  pub nz : Within 1 most_levels x.nz
  pub flat : IsFalse x.z → x.nz ≡ 1
  pub stag_z : IsTrue x.stag_z → IsTrue x.z

-- of the names of its dimensions
pub record HasNamedDims (x : Field) : Type 0 where
  pub x_name : IsTrue (is_name x.x_name)
  pub y_name : IsTrue (is_name x.y_name)
  pub z_name : IsTrue x.z → IsTrue (is_name x.z_name)

-- of its streams and texts
pub record HasRangedTexts (x : Field) : Type 0 where
  pub streams : x.streams < 2 ^ 10
  pub description : length x.description ≤ 256
  pub units : length x.units ≤ 256
