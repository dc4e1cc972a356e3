-- What the contracts cite.
pub mod Bind
pub mod Bindtags
pub mod Event
pub mod Steps
pub mod Words
