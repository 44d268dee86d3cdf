pub mod CellSums
pub mod ScriptItems
pub mod Stages
pub mod FileSizes
