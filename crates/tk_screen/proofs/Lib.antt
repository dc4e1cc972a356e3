-- Lemmas.
pub mod Alike
pub mod Apart
mod Escapes
pub mod KeptMarks
pub mod KeptPlaces
pub mod Laid
mod Listed
pub mod Looking
pub mod MarkSteps
pub mod Placed
pub mod Repacking
pub mod Rows
pub mod There
pub mod Touching
pub mod Twice
