pub mod Spelled
pub mod Looks
pub mod Changes
