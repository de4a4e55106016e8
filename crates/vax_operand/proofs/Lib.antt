pub mod ByteByByte
pub mod Preparing
pub mod Steps
