pub mod Delay
pub mod Split
pub mod Window
