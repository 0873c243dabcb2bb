pub mod Codes
pub mod Ends
pub mod Sets
pub mod Forms
