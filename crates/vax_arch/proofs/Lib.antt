pub mod Compression
pub mod Walks
