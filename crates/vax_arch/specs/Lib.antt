pub mod Fields
pub mod Protection
pub mod Rei
pub mod Ring
pub mod Shown
pub mod Walk
pub mod WalkLaws
