pub mod IoParts
pub mod LevelFields
