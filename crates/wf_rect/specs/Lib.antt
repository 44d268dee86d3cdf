pub mod Blocks
pub mod Owners
pub mod Boxes
pub mod Tiles
pub mod Cases
