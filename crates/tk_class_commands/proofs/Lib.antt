-- Lemmas of the proofs.
pub mod OneWindow
