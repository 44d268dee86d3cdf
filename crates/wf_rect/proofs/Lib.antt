pub mod BlockPlaces
pub mod Owning
pub mod Meeting
pub mod Tiling
pub mod Stored
pub mod Cases
