pub mod Laws
pub mod Arms
pub mod Loops
pub mod Answers
