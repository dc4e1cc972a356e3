-- What the contracts cite.
pub mod Binding
pub mod Calls
pub mod Class
pub mod Commands
pub mod Course
pub mod Dispatch
pub mod Ends
pub mod Laws
pub mod Moment
pub mod Outcomes
pub mod Path
pub mod Rests
pub mod Screen
