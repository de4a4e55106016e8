pub mod Happens
pub mod Saying
pub mod Seats
