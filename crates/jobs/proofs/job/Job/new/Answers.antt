use Rattle.std.proofs.Common.{◌≤◌, length, arith}
use Rattle.jobs.specs.Job.{text_lines_of}
use Rattle.jobs.specs.Limits.{max_job}
use Rattle.jobs.proofs.TextLines.{lines_few}
use Rattle.jobs.proofs.job.Job.new.Goals as goal
use Rattle.jobs.proofs.job.Job.new.Goals.{then-too_long, else-too_long}

pub invariant_of-result : goal.invariant_of-result
invariant_of-result g c =
    let few : length (text_lines_of c.if-too_long.result.now) ≤ max_job = elim c.if-too_long.branch [
      | then-too_long w ↦ rw w.result-is (omega arith)
      | else-too_long w ↦ rw w.result-is (omega (arith, lines_few c.args.bytes.now))
    ] in
    record { few = omega (arith, few) }
