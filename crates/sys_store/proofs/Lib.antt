pub mod Zero
pub mod Stored
