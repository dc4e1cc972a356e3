-- What the contracts cite.
pub mod After
pub mod Keys
pub mod Shared
pub mod Timers
