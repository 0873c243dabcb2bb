pub mod Right
pub mod Whole
pub mod WellMade
pub mod Plans
