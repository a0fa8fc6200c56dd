-- What the core takes of the crates below: theorems of their contracts. Assumes nothing.
use Rattle.std.proofs.Common.{◌<◌}
use Rattle.book.specs.Book.{Book, Event}
use Rattle.paths.specs.Instant.{StillKeeps}
use Rattle.book.specs.Length.{length_of}
use Rattle.paths.specs.Path.{Begins, StepsArePaths}
use Rattle.book.specs.Fit.{BeginsFit, StepsFit}
use Rattle.microprogram.specs.Bounds.{RowsEnd, RowsAreListed, path_budget}

pub record Below : Type 0 where
  pub memory : StillKeeps
  pub paths : StepsArePaths
  pub begins : Begins
  pub fits : BeginsFit
  pub words : StepsFit
  pub some : (b : Book) (v : Event) → 0 < length_of b v
  pub rows : RowsEnd path_budget
  pub listed : RowsAreListed
