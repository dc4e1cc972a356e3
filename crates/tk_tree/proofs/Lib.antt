pub mod Added
pub mod Changed
pub mod Children
pub mod Corners
pub mod Lists
pub mod Looks
pub mod Orders
pub mod PathLemmas
pub mod Points
pub mod Rising
pub mod Slots
pub mod Ways
mod IndexLemmas
