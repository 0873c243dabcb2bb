pub mod Columns
pub mod Prefixes
pub mod Entries
pub mod Lines
pub mod Names
pub mod Books
pub mod Lookups
