pub mod Crossing
pub mod Here
pub mod InPage
pub mod Knowing
pub mod Lookups
pub mod Masks
pub mod Puts
pub mod Tagging
pub mod Watching
pub mod Widths
mod Frames
