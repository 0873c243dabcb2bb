pub mod Items
pub mod Heads
pub mod Places
pub mod Faults
