pub mod Bounded
pub mod Numbered
pub mod Lists
pub mod Bytes
pub mod Columns
pub mod Range
pub mod Sizes
pub mod Least
