pub mod Sums
pub mod Taking
pub mod Doing
pub mod Reaching
pub mod Touching
pub mod Sources
pub mod Storing
pub mod Pushing
pub mod Moving
pub mod Relative
pub mod StatusMoves
mod BitTests
mod Indexing
mod Subroutines
