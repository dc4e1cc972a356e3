-- What the contracts cite.
pub mod Added
pub mod Answers
pub mod Buttons
pub mod Changes
pub mod Fault
pub mod Limits
pub mod Lines
pub mod Names
pub mod Refusals
pub mod Routes
pub mod Screen
pub mod Values
