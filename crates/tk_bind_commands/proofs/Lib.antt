-- Lemmas of the proofs.
pub mod EventLemmas
pub mod PlusLemmas
pub mod WrittenLemmas
