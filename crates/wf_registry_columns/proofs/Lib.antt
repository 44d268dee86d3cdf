pub mod AxisLemmas
pub mod GroupLemmas
pub mod IoParts
pub mod JoinedWords
