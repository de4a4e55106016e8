pub mod Audited
pub mod Lines
pub mod Reading
pub mod Seen
pub mod Laws
pub mod Shown
