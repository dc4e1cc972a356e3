-- What the contracts cite.
pub mod Arrangements
pub mod Ask
pub mod Asked
pub mod Behind
pub mod Changes
pub mod Groups
pub mod Kept
pub mod Layout
pub mod Loops
pub mod Packs
pub mod Parcels
pub mod Shared
pub mod Spread
pub mod Standing
pub mod Tables
