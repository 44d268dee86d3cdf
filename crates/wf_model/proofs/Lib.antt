pub mod JoinedLines
pub mod FactorRoom
pub mod FirstPlaces
pub mod ReadingLemmas
pub mod StoreRunLaws
pub mod RangeParts
pub mod ScriptLaws
