use Rattle.std.proofs.Common.{◌≡◌, ◌↔◌}
use Rattle.replies.specs.Replies.{text_of_replies, answer_text, replies_to_come}
use Rattle.cases.proofs.case.holds.Given as goal

abbrev pub invariant-loop-reply : goal.invariant-loop-reply
invariant-loop-reply l =
    (text_of_replies (replies_to_come l.reply-iterator) ≡ l.rest) ↔ (answer_text l.job ≡ l.replies)
