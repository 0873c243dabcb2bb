pub mod Steps
pub mod Layout
pub mod Conditions
pub mod Sets
pub mod WellFormed
pub mod Numbers
