-- The points of a level in the domain.
use Rattle.std.specs.Prelude.{ℕ, ◌*◌}
use Rattle.wf_boxes.specs.declared.places.LevelBox.{LevelBox}

-- how many there are
abbrev pub points_of : LevelBox → ℕ
points_of s = s.levels * (s.height * s.width)
