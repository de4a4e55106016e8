pub mod CommandLine
pub mod Verdict
pub mod Apply
pub mod Replies
pub mod ShownLines
pub mod ShownVerdicts
