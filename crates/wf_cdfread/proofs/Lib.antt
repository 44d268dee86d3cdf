pub mod Turns
pub mod HeaderParts
pub mod SlabSizes
pub mod SlabValues
