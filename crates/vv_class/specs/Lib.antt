pub mod Class
pub mod Text
pub mod Scan
pub mod Shown
