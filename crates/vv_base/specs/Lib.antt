pub mod Bits
pub mod Bytes
pub mod Digits
pub mod Names
pub mod Shown
pub mod Width
