pub mod RangedValues
pub mod SoundDomains
pub mod Layouts
