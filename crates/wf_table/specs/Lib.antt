pub mod Faults
pub mod Place
pub mod Start
pub mod Expressions
pub mod Items
pub mod Lines
pub mod Joined
