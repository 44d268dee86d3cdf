pub mod Kept
pub mod Met
pub mod Kinds
pub mod Conditions
pub mod FileLines
pub mod Ahead
