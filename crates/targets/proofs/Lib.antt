pub mod Names
pub mod Classes
pub mod Targets
pub mod Steps
