pub mod Writing
pub mod Valid
pub mod Syntax
pub mod Reading
pub mod Args
pub mod Grounds
pub mod Cases
