pub mod Steps
pub mod Tests
pub mod Arms
pub mod Sets
pub mod Work
pub mod Answers
