pub mod Decided
pub mod Pile
