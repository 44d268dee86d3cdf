pub mod Regions
pub mod Sizes
