pub mod Days
pub mod Moments
pub mod Laws
pub mod ReadBack
