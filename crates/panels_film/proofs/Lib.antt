mod Filming
mod Histories
mod Noting
mod Parsing
mod Pictures
mod Tracing
