pub mod Audit
pub mod Shown
