-- What the contracts cite.
pub mod Arena
pub mod Change
pub mod Changing
pub mod Corners
pub mod Create
pub mod FaultNumbers
pub mod Index
pub mod Orders
pub mod Own
pub mod Path
pub mod Shared
pub mod Walks
pub mod Ways
pub mod Window
