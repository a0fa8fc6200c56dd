pub mod Instant
pub mod Path
