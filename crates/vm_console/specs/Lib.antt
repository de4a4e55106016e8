pub mod Appends
pub mod Console
pub mod Kept
pub mod Parts
pub mod Shown
