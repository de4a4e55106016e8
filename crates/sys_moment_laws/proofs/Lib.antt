pub mod Halts
mod Holds
pub mod Separate
mod Shapes
pub mod Stands
