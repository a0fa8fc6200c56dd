pub mod Borrowed
pub mod Placement
pub mod Ram
pub mod Region
pub mod Rom
pub mod Scratch
