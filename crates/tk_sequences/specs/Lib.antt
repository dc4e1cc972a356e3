-- What the contracts cite.
pub mod Event
pub mod FaultTexts
pub mod Grammar
pub mod Laws
pub mod Lookup
pub mod Modifiers
pub mod Names
pub mod Patterns
pub mod Reading
pub mod Types
pub mod Words
pub mod Writing
