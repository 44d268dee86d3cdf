pub mod TextError
pub mod Physical
pub mod Pending
pub mod Rest
