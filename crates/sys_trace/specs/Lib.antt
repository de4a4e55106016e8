pub mod TraceLine
pub mod Trace
pub mod Held
pub mod Traced
pub mod ShownTrace
