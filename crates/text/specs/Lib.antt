pub mod Digit
pub mod Fault
pub mod Form
pub mod Reading
pub mod Reread
pub mod Writing
