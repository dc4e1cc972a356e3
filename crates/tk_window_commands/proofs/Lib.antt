-- Lemmas.
pub mod Answered
pub mod Made
