pub mod Composes
pub mod Kept
