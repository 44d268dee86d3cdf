pub mod Digits
pub mod LastByte
pub mod LineEnds
pub mod LogicalLines
pub mod WordScan
pub mod Suffixes
pub mod NextLines
