pub mod Followed
pub mod Emulated
pub mod Readings
pub mod Changed
pub mod Moved
pub mod Probed
pub mod Loaded
pub mod Fetched
