pub mod Words
pub mod Lines
pub mod Mounting
pub mod Records
pub mod Following
pub mod Mounts
pub mod Reaching
pub mod Fronts
