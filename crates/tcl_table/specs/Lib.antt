-- What the contracts cite.
pub mod CacheLaws
pub mod Entries
pub mod Kept
pub mod Levels
pub mod Limits
pub mod Names
pub mod Source
pub mod SourceForms
pub mod Table
pub mod Texts
