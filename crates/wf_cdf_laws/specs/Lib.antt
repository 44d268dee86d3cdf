pub mod ReadAgain
pub mod SlabsAgain
pub mod FileNames
pub mod FilesAgain
