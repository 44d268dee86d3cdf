pub mod Memories
pub mod FirstFound
pub mod Countable
pub mod Answered
