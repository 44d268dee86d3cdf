pub mod Tests
pub mod Lists
pub mod Walking
pub mod Taking
pub mod Narrow
pub mod Carried
pub mod Items
pub mod Messages
