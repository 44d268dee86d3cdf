pub mod Commands
pub mod WordsOf
