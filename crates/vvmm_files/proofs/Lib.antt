mod Sizes
pub mod SnapText
pub mod Stopping
