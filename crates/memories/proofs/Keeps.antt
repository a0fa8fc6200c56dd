-- The proofs that the memories mean something sound and keep points 1 to 4 of the bus.
pub mod Region
