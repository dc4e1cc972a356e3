-- What the contracts cite.
pub mod Buttons
pub mod Changes
pub mod Commands
pub mod Entries
pub mod Listboxes
pub mod Named
pub mod Outcomes
pub mod Requests
pub mod Steps
pub mod Table
pub mod Targets
