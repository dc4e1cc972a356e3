-- What the contracts cite.
pub mod Faults
pub mod Given
pub mod Info
pub mod Options
pub mod Pack
pub mod Places
pub mod Targets
pub mod Values
