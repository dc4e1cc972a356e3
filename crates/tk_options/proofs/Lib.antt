-- Lemmas.
pub mod AmountLemmas
pub mod Entries
pub mod Only
pub mod Places
pub mod SettingLemmas
