-- What the contracts cite.
pub mod Classes
pub mod Columns
pub mod Commands
pub mod Entries
pub mod EntryCommands
pub mod Indices
pub mod Items
pub mod Kept
pub mod Lines
pub mod ListboxCommands
pub mod ListboxKeys
pub mod Listboxes
pub mod Outcomes
pub mod Sizes
pub mod Steps
pub mod Walk
