pub mod Layout
pub mod Shadowed
pub mod Calls
pub mod Flags
pub mod Marks
pub mod StandsFor
pub mod Laws
pub mod Shown
