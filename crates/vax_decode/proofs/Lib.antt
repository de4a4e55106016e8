pub mod Powers
pub mod Decodings
pub mod Encodings
pub mod RoundTrip
