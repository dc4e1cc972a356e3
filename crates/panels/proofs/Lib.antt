pub mod Joined
pub mod Lines
pub mod Maps
pub mod Moves
pub mod Refused
pub mod Taken
pub mod Ways
