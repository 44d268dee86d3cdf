pub mod SameFrames
pub mod ReadBack
pub mod Restarts
pub mod Times
pub mod Shifted
pub mod Agrees
pub mod Filed
