pub mod Faults
pub mod Places
pub mod Rules
pub mod Judged
pub mod Condition
pub mod Shown
