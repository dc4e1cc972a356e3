-- What the contracts cite.
pub mod Bounds
pub mod Calls
pub mod FirstFormat
pub mod Output
pub mod Play
pub mod Ranges
pub mod Sections
