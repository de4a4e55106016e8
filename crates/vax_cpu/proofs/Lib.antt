pub mod One
pub mod Quiet
mod Claiming
mod IndexedSteps
mod StatusSteps
pub mod Traps
