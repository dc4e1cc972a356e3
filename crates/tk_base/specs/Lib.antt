-- What the contracts cite.
pub mod Bag
pub mod Counters
pub mod Kind
pub mod Limits
pub mod Line
pub mod Names
pub mod Numbered
pub mod Rect
pub mod Steps
pub mod Table
