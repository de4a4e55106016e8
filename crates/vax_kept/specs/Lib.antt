pub mod Changed
pub mod ShownChanged
pub mod Fetched
