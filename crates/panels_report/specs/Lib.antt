-- What the contracts cite.
pub mod Answers
pub mod Blocks
pub mod Cases
pub mod Ends
pub mod Expected
pub mod Failing
pub mod Faults
pub mod Idle
pub mod Isolation
pub mod Lint
pub mod Trials
