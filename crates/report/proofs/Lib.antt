pub mod Writing
pub mod Names
pub mod Parts
pub mod Answers
pub mod Report
pub mod Book
