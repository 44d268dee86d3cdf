pub mod SameBoxes
pub mod BlockPoints
pub mod RowRanges
pub mod PatchBlocks
