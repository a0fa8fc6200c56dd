pub mod Failure
pub mod Run
