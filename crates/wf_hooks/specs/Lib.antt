pub mod Accepts
pub mod Hooks
pub mod Numbers
