pub mod Codes
pub mod WellFormed
pub mod Both
