mod Decided
mod Waits
