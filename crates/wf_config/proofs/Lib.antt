pub mod Finds
pub mod FirstFaults
pub mod LookUps
pub mod Loops
pub mod Actives
pub mod Judgements
pub mod GroupParts
pub mod Bound
