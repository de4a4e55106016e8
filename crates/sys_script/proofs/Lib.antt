pub mod Ordered
pub mod Reading
pub mod TypedLines
pub mod WrittenAgain
