use Rattle.std.proofs.Common.{arith}
use Rattle.replies.proofs.Front.{front_tells}
use Rattle.replies.specs.Replies.{enough_bytes}
use Rattle.replies.proofs.enough_bytes.Goals as goal

pub returns-clause-tells : goal.returns-clause-tells
returns-clause-tells c = front_tells enough_bytes (omega arith)
