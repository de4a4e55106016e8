pub mod Bits
pub mod Order
pub mod Sets
pub mod Runs
pub mod Spelled
pub mod Places
pub mod Numbers
