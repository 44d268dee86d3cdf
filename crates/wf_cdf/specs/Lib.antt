pub mod Capped
pub mod StreamLevels
