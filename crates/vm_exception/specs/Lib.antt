pub mod Wrote
pub mod Pushed
pub mod Standing
pub mod Initiated
pub mod Attempted
pub mod Sources
pub mod Made
pub mod Noted
