pub mod Layout
pub mod Codes
pub mod Entries
pub mod Decode
pub mod WellFormed
pub mod Sizes
pub mod Names
