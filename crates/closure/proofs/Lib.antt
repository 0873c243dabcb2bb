pub mod Rows
pub mod Gains
pub mod Through
pub mod Digits
pub mod Blocks
