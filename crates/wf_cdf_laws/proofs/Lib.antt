pub mod Standing
pub mod Fields
pub mod Lists
pub mod Headers
pub mod Slabs
pub mod FileDims
pub mod FileHeaders
pub mod Frames
