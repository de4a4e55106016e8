pub mod Numbers
pub mod Paths
pub mod Rows
pub mod Later
pub mod Folds
pub mod Members
