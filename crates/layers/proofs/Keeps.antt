-- The proofs that the layers mean something sound and keep points 1 to 4 of the bus where the memories below do.
mod Layer
pub mod Delay
pub mod Split
pub mod Window
