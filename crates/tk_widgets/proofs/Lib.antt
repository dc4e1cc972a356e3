-- Lemmas.
pub mod Chosen
pub mod CommandLemmas
pub mod LineLemmas
pub mod Lists
pub mod RoomLemmas
