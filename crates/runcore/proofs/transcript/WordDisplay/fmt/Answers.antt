use Rattle.runcore.proofs.Hexadecimal.{writes}
use Rattle.runcore.proofs.transcript.WordDisplay.fmt.Goals as goal

pub returns-clause-writes : goal.returns-clause-writes
returns-clause-writes g c =
    writes _ _ _ _ 8 c.args.self.now.0 c.in_radix.result c.laid_out.result
    c.in_radix.ensures c.laid_out.ensures c.write.ensures.writes
