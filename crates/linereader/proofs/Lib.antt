pub mod Bodies
pub mod Targets
