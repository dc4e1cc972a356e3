-- What the contracts cite.
pub mod Bindings
pub mod Films
pub mod Getters
pub mod Heads
pub mod Looks
pub mod Moments
pub mod Notes
pub mod Numbers
pub mod Pages
pub mod Scenes
pub mod Screens
pub mod Traces
