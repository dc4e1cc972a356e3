-- What the crates above cite in their proofs.
pub mod NamesLemmas
pub mod Orders
pub mod Owners
mod Parts
