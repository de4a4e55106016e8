pub mod Asking
pub mod Echoing
pub mod Joining
pub mod Lines
pub mod Living
pub mod Making
pub mod Reading
pub mod Words
