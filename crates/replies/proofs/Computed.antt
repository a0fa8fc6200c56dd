-- The function computes: the example. Assumes nothing.
use Rattle.std.proofs.Common.{refl}
use Rattle.replies.specs.Replies.{ExampleHolds}
use Rattle.rows.specs.Rows.{rows}

pub example_holds : ExampleHolds
unfolding rows
example_holds = refl
