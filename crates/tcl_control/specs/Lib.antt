-- What the contracts cite.
pub mod Arms
pub mod Assign
pub mod Choices
pub mod Commands
pub mod Control
pub mod Expressions
pub mod ExpressionForms
pub mod Procedures
pub mod Loops
pub mod Usages
pub mod Variables
pub mod Verdicts
