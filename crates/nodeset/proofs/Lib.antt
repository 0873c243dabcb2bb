pub mod Bits
pub mod Sets
pub mod Stores
pub mod Members
