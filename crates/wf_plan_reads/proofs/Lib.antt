pub mod Layers
pub mod Shifted
pub mod FirstReads
pub mod FirstFaults
