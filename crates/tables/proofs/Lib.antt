pub mod Places
pub mod Cleared
pub mod WellFormed
pub mod Decode
pub mod Sizes
pub mod Beside
pub mod Names
