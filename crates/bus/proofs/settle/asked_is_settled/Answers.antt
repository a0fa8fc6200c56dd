use Rattle.std.proofs.Common.{sym}
use Rattle.bus.proofs.Waits.{ends}
use Rattle.bus.specs.Meaning.{Answers}
use Rattle.bus.proofs.settle.asked_is_settled.Goals as goal

pub returns : goal.returns
returns c q r m n o a h k e =
    ends {means = λ x. x} {steps = Answers} (λ s x b t i. i) q r.waits m n o h a r.outcome k (sym e)
