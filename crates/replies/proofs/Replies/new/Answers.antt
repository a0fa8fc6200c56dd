use Rattle.std.proofs.Common.{ap, ap₂, ◌∙◌}
use Rattle.jobs.specs.Decided.{replies_to_job}
use Rattle.jobs.specs.Limits.{max_job}
use Rattle.pile.specs.Decided.{meaning_after}
use Rattle.pile.specs.Pile.{job_pile}
use Rattle.replies.proofs.Replies.new.Goals as goal

pub returns : goal.returns
returns c =
    c.new.ensures.replies meaning_after
    ∙ ap (λ m. replies_to_job meaning_after max_job m c.args.job.now)
    (c.pile.ensures ∙ ap₂ job_pile c.zeroed.ensures.low c.zeroed.ensures.high)
