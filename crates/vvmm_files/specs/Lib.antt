pub mod Commands
pub mod Fetches
pub mod Files
pub mod Solo
pub mod Texts
pub mod Words
pub mod Answers
