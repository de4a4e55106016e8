pub mod Left
pub mod Prepared
