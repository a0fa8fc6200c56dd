pub mod Bounds
pub mod ChipCycle
pub mod Cycle
