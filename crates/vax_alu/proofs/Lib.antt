pub mod Casts
pub mod Shifts
