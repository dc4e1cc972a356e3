-- What the proofs share.
pub mod Adds
pub mod Choices
pub mod ClassSequences
pub mod Dooms
pub mod Drains
pub mod Heads
pub mod Kept
pub mod Marks
pub mod Nexts
pub mod Others
pub mod Rounds
pub mod Starts
pub mod Turns
