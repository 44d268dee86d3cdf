pub mod Premises
pub mod ItemLaws
pub mod NamesLaws
