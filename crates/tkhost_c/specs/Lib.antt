-- What the contracts cite.
pub mod Calls
pub mod Doing
pub mod Keeping
pub mod Keeps
pub mod Numbers
pub mod Refused
