pub mod Besides
pub mod Given
pub mod Laws
pub mod Ran
pub mod Rounds
pub mod Saved
