pub mod Groups
pub mod NamelistError
pub mod Places
pub mod Scanning
pub mod Turns
pub mod Words
