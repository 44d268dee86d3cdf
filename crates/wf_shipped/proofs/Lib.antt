pub mod Accepting
pub mod Between
