-- What the contracts cite.
pub mod Classes
pub mod FaultTexts
pub mod First
pub mod Named
pub mod Parse
pub mod Several
pub mod Shared
pub mod Virtual
