pub mod Conditions
pub mod Ends
