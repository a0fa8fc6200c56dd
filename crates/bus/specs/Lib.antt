pub mod Decided
pub mod Meaning
pub mod Request
pub mod Settle
