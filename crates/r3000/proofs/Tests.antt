-- Tests that hold together. Assumes nothing.
use Rattle.std.proofs.Common.{Bool, true, false, ◌&&◌, T}

pub left : (a b : Bool) → T (a && b) → T a
left true b h = tt
left false b h = h

pub right : (a b : Bool) → T (a && b) → T b
right true b h = h
right false b h = absurd h
