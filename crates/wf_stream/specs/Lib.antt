pub mod Writing
pub mod Inputs
pub mod FrameCounts
pub mod StoreWrites
pub mod Slabs
pub mod Levels
pub mod Starts
