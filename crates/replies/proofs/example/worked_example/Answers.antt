use Rattle.replies.proofs.Computed.{example_holds}
use Rattle.replies.proofs.example.worked_example.Goals as goal

pub returns-clause-replies : goal.returns-clause-replies
returns-clause-replies c = example_holds

pub returns-clause-holds : goal.returns-clause-holds
returns-clause-holds c = example_holds
