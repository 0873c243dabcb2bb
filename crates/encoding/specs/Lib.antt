pub mod Rows
pub mod Flatten
pub mod Encode
