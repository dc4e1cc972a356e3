pub mod AddedLemmas
pub mod LineLemmas
pub mod Ranges
pub mod ScreenLemmas
pub mod SlotLemmas
