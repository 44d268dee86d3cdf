mod Parts
mod Words
pub mod WordsOf
