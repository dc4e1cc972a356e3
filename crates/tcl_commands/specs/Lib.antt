-- What the contracts cite.
pub mod Ahead
pub mod Arrays
pub mod ArraySteps
pub mod Branches
pub mod Commands
pub mod Done
pub mod Edits
pub mod Groups
pub mod IfWords
pub mod Links
pub mod Names
pub mod Parameters
pub mod Refusals
pub mod Shapes
pub mod Texts
pub mod Unset
pub mod Values
