-- What the contracts cite.
pub mod Crossings
pub mod Deliver
pub mod Events
pub mod Focus
pub mod Inputs
pub mod Pointer
pub mod Shared
