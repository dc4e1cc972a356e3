mod Bags
pub mod Dues
mod Earliest
mod Firsts
mod Kept
mod KeyOrders
mod Lists
mod Marks
mod Names
pub mod Numbers
mod Splits
mod Told
