-- What the contracts cite.
pub mod Changes
pub mod Fields
pub mod Kept
pub mod Layout
pub mod Marks
pub mod Own
pub mod Placing
pub mod Reading
pub mod Reads
pub mod Seen
pub mod Shapes
pub mod Shared
pub mod Timers
pub mod Touch
pub mod Tree
pub mod Widgets
