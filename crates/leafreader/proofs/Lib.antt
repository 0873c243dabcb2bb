pub mod Forms
pub mod Shapes
