-- Lemmas of the proofs.
pub mod ClassTouch
pub mod Drained
pub mod Meanings
pub mod PackTouch
pub mod PathTouch
pub mod Settled
