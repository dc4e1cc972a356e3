-- What the contracts cite.
pub mod Names
pub mod Replies
pub mod Services
