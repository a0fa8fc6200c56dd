-- The proofs that a layer waits a request out as its steps would, where the memories below do.
mod Layer
pub mod Delay
pub mod Split
pub mod Window
