pub mod Lent
pub mod Claim
pub mod Whole
pub mod Verdicts
pub mod Rounds
pub mod Nearest
