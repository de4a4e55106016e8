pub mod Seen
pub mod Decoding
pub mod Encoding
