pub mod Book
pub mod Cases
pub mod Fit
pub mod Instruction
pub mod Length
