-- What the contracts cite.
pub mod Asked
pub mod Beside
pub mod Course
pub mod Dues
pub mod Gestures
pub mod Looks
pub mod Panes
pub mod Picture
pub mod Played
pub mod Refusals
pub mod Screens
pub mod Shapes
pub mod Typing
pub mod Verdict
pub mod Words
