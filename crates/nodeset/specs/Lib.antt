pub mod Words
pub mod Operations
pub mod Steps
