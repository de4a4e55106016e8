pub mod Ranges
pub mod Drawing
pub mod Rows
pub mod Happening
pub mod Accepting
pub mod Making
