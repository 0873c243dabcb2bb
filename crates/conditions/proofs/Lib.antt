pub mod Terms
pub mod Items
pub mod Members
pub mod Searches
pub mod Listing
pub mod Pairs
pub mod Langs
pub mod Sides
