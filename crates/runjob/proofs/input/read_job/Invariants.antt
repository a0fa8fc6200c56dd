use Rattle.std.proofs.Common.{◌≡◌, ◌≤◌, length, ◌-◌, vec_len}
use Rattle.std.specs.Io.KnownBytes.{Consumes}
use Rattle.runjob.proofs.input.read_job.Given as goal

abbrev pub invariant-loop-chunk : goal.invariant-loop-chunk
invariant-loop-chunk g l =
    Consumes (g.R.Read.remaining l.initial.reader) (g.R.Read.remaining l.reader) l.job.items × (vec_len l.job ≤ l.most)
    × (length l.chunk ≡ 4096)

abbrev pub decreases-loop-chunk : goal.decreases-loop-chunk
decreases-loop-chunk g l = l.most - vec_len l.job
