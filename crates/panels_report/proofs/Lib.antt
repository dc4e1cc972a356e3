mod Blocking
mod Casing
mod Getting
mod Idling
mod Questioned
mod Trying
