pub mod AddLemmas
pub mod Copies
pub mod HandleLemmas
pub mod LineLemmas
pub mod Places
pub mod Runs
pub mod ToldLemmas
pub mod Values
