use Rattle.std.proofs.Common.{ap, ◌∙◌}
use Rattle.replies.specs.Replies.{text_of_replies, replies_to}
use Rattle.runjob.proofs.Known.{Running-written}
use Rattle.runjob.proofs.run.run.Goals as goal

pub returns : goal.returns
returns g c =
    let job = c.in_ok-job.job.items in
    let all =
    ap text_of_replies c.new-replies.ensures
    ∙ ap (λ job. text_of_replies (replies_to job)) c.deref.ensures.value in
    Running-written _ _ _ _ job _ c.write_replies.result c.map_err.result
    c.in_ok-job.ensures c.write_replies.ensures all c.map_err.ensures.cases
