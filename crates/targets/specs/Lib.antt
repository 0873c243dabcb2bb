pub mod Classes
pub mod Targets
