mod Fields
pub mod Fills
pub mod Loops
pub mod Misfits
mod OnlyFields
mod OnlyRecords
pub mod OnlyStates
pub mod Pieces
pub mod Placing
mod Records
pub mod States
