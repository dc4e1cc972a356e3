pub mod KeptLemmas
pub mod SourceLemmas
pub mod TableLemmas
pub mod Twice
