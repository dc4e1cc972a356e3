-- What the contracts cite.
pub mod Asked
pub mod Fields
pub mod Generate
pub mod Given
pub mod Refusals
pub mod Told
pub mod Values
