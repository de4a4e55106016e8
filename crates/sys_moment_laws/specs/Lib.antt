pub mod Halts
pub mod Holds
pub mod ConsistentState
pub mod Separate
