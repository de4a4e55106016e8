pub mod Cutting
pub mod Reading
pub mod Written
pub mod Setting
