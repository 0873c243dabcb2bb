pub mod Frames
pub mod Children
