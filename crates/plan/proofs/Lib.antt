pub mod Complements
pub mod Contraries
pub mod Stores
pub mod ReadBack
