-- What the proofs share. `Parts`, `Settled` and `Slices` also serve who lets applications pass from moment to moment.
mod Adding
mod Alone
mod Beginnings
mod Behind
mod Begun
mod ByEquations
pub mod BySettle
mod ByUpdate
mod CommandMoments
mod CommandTrees
mod Commands
mod Equations
mod Events
mod Families
mod Gone
mod Grows
mod Homes
mod InOrder
mod Items
mod KeptByCalls
mod KeptByCommands
mod KeptByPanel
mod KeptFrames
mod LaidOut
mod Left
mod Loops
pub mod Near
mod Nexts
mod Only
mod Packed
mod Panels
pub mod Parts
pub mod Passing
mod Places
mod PostOrder
mod PreOrder
pub mod Reached
pub mod Rounds
pub mod Settled
pub mod Shares
mod Shows
pub mod Slices
pub mod Slots
mod Sound
mod SoundBySettle
pub mod SoundParts
pub mod Stages
mod Standing
mod Stores
pub mod Told
mod Trees
pub mod Views
pub mod Waits
mod Within
