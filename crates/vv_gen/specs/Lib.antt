pub mod Draws
pub mod Image
pub mod Config
pub mod Volumes
pub mod Events
pub mod Workload
pub mod Accepted
pub mod Shown
