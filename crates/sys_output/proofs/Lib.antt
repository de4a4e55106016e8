pub mod AllDumps
pub mod Lines
pub mod Parts
pub mod Flat
pub mod Reading
pub mod Seating
