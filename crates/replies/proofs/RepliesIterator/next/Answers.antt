use Rattle.pile.specs.Decided.{meaning_after}
use Rattle.replies.proofs.Progress.{progress}
use Rattle.replies.specs.Replies.{replies_to_come}
use Rattle.replies.proofs.RepliesIterator.next.Goals as goal

pub returns-clause-steps : goal.returns-clause-steps
returns-clause-steps c = c.next.ensures.steps.exact meaning_after c.pile_is_decided.ensures

pub returns-clause-goes : goal.returns-clause-goes
returns-clause-goes c =
    progress replies_to_come _ _ c.next.result (c.next.ensures.steps.exact meaning_after c.pile_is_decided.ensures)
