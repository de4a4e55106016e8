pub mod Completed
pub mod Outcomes
