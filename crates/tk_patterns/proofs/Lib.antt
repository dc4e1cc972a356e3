-- Lemmas of the proofs.
pub mod BindLemmas
pub mod CopyLemmas
pub mod EventLemmas
pub mod FiledLemmas
pub mod FilingLemmas
pub mod KeptLemmas
pub mod MarkLemmas
pub mod MatchLemmas
pub mod MatchingLemmas
pub mod OrderLemmas
pub mod PairLemmas
pub mod PlaceLemmas
pub mod Reached
pub mod RestLemmas
pub mod SeekLemmas
pub mod VerdictLemmas
pub mod WinnerLemmas
