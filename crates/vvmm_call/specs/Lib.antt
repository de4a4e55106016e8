pub mod Answer
pub mod Devices
pub mod Summary
pub mod Serves
pub mod Shown
