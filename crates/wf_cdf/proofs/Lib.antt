pub mod CappedSums
pub mod Sizes
pub mod Lengths
pub mod Placed
pub mod Limits
pub mod LevelLoops
pub mod StreamSizes
pub mod SoundParts
