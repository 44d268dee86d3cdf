pub mod Active
pub mod ConfigErrors
pub mod NameParts
pub mod Rules
