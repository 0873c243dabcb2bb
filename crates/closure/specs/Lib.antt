pub mod Rows
pub mod Closing
