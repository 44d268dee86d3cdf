pub mod CellCount
pub mod FieldRanges
pub mod LimitParts
