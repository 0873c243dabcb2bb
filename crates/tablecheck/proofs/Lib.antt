pub mod Codes
pub mod Items
pub mod Columns
pub mod Parts
