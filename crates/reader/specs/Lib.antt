pub mod Answers
pub mod Running
pub mod Indexing
