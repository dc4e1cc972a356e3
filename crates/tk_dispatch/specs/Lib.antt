-- What the contracts cite.
pub mod Dispatch
pub mod Histories
pub mod Made
pub mod Percent
pub mod Queue
pub mod Queued
pub mod Substitution
