pub mod Counted
pub mod Lent
pub mod Separate
pub mod Tracing
pub mod Workloads
pub mod Unasked
