pub mod Facts
pub mod Images
pub mod Ends
pub mod Over
