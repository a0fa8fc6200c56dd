use Rattle.std.proofs.Common.{refl}
use Rattle.microprogram.proofs.Ends.{least, rows_end}
use Rattle.microprogram.proofs.Successors.{rows_listed}
use Rattle.microprogram.proofs.bounds.longest_path.Goals as goal

pub returns : goal.returns
returns c = record { value = refl; bounded = rows_end; least = least; listed = rows_listed }
