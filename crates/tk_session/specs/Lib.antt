-- What the contracts cite.
pub mod FirstFormat
pub mod Names
pub mod Session
pub mod OneLine
pub mod Reading
pub mod Writing
