use Rattle.std.proofs.Common.{subst}
use Rattle.microprogram.specs.Bounds.{RowsEnd}
use Rattle.r3000.proofs.Law.{kept}
use Rattle.r3000.proofs.promise.promise.Goals as goal

pub returns : goal.returns
returns g c =
    let book = c.longest_step.ensures in
    let rows = c.longest_path.ensures in
    let paths = c.steps_are_paths.ensures in
    kept (record {
      memory = paths.memory;
      paths = paths.paths;
      begins = paths.begins;
      fits = book.begins;
      words = book.words;
      some = book.longest.some;
      rows = subst RowsEnd rows.value rows.bounded;
      listed = rows.listed;
    }) c.keeps.ensures
