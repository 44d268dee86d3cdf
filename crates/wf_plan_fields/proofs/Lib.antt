pub mod IoReads
pub mod Functions
pub mod StreamBits
pub mod LevelsOf
