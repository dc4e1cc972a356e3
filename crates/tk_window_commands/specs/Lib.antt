-- What the contracts cite.
pub mod Answers
pub mod Commands
pub mod Create
pub mod Path
pub mod Steps
pub mod Winfo
pub mod Wm
