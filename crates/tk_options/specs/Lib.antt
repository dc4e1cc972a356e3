-- What the contracts cite.
pub mod Amounts
pub mod Entries
pub mod FaultTexts
pub mod Forms
pub mod Names
pub mod Options
pub mod Rows
