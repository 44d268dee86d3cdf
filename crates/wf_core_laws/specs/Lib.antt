pub mod Patches
pub mod Front
pub mod Carried
pub mod Ends
pub mod Stops
pub mod EventCount
pub mod PieceCount
pub mod EveryList
