pub mod Answers
pub mod Sessions
pub mod Memo
pub mod Parts
