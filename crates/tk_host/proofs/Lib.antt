mod Apart
mod Bounded
pub mod BySettle
mod Counts
mod Cut
mod Deliveries
pub mod FirstFormat
mod Fits
mod History
mod Kept
mod Looks
mod Order
mod Parts
mod Passing
mod PassesBySettle
pub mod Ranges
mod Relation
mod Routing
mod Sections
mod Settling
mod Slots
mod Ways
pub mod Used
pub mod UsedBySettle
