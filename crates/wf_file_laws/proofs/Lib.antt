pub mod DimNames
