-- What the contracts cite.
pub mod Add
pub mod Change
pub mod Changing
pub mod Links
pub mod Name
pub mod Named
pub mod Owned
pub mod Put
pub mod Short
pub mod Shown
pub mod Sound
pub mod Store
pub mod Table
pub mod Texts
pub mod Unset
pub mod Way
