pub mod Blocks
pub mod Job
pub mod Shown
