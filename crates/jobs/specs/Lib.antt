pub mod NextReply
pub mod Decided
pub mod Decision
pub mod Fault
pub mod Job
pub mod Limits
pub mod Station
