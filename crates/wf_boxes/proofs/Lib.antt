pub mod Ends
pub mod Placing
pub mod Laid
pub mod Wrapping
