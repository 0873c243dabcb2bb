pub mod Report
pub mod Pages
pub mod Answers
