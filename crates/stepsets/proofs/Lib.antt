pub mod Nodes
pub mod Conditions
pub mod Rows
