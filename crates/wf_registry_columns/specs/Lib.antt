pub mod Words
pub mod Kinds
pub mod IoLengths
pub mod Heads
pub mod Axes
pub mod FoundAxis
pub mod Texts
