pub mod EntryRules
pub mod RegistryLaws
pub mod ConfigLaws
pub mod FieldLaws
pub mod PartLaws
pub mod FileLaws
pub mod HookLaws
