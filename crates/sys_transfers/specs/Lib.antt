pub mod Serves
pub mod ServesAll
