pub mod Clock
pub mod Parts
pub mod Ticks
pub mod Shown
