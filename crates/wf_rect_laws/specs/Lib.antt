pub mod Boxes
pub mod Patches
