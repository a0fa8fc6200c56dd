-- The limit of a job. Assumes nothing.
use Rattle.std.specs.Prelude.{ℕ}

-- the most bytes of a job
abbrev pub max_job : ℕ
max_job = 65536
