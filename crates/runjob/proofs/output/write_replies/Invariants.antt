use Rattle.std.proofs.Common.{◌≡◌, ℕ, List, ◌++◌}
use Rattle.std.specs.Io.KnownBytes.{Appends}
use Rattle.replies.specs.Replies.{text_of_replies, replies_to_come}
use Rattle.runjob.proofs.output.write_replies.Given as goal

abbrev pub invariant-loop-reply : goal.invariant-loop-reply
invariant-loop-reply g l =
    (front : List ℕ)
    × (text_of_replies (replies_to_come l.initial.replies) ≡ front ++ text_of_replies (replies_to_come l.replies))
    × Appends (g.W.Write.contents l.initial.writer) (g.W.Write.contents l.writer) front
