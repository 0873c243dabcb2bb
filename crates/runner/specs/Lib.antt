pub mod Kinds
pub mod Run
pub mod Steps
