pub mod Changes
pub mod Kernel
pub mod Layout
pub mod Loads
pub mod Present
