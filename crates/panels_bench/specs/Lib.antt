-- What the contracts cite.
pub mod Benches
pub mod Entries
pub mod Gestures
pub mod Messages
pub mod Panels
pub mod Sights
pub mod Slots
pub mod Stands
pub mod Values
