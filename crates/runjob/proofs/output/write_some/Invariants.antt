use Rattle.std.specs.Io.KnownBytes.{Keeps}
use Rattle.runjob.proofs.output.write_some.Given as goal

abbrev pub invariant-loop : goal.invariant-loop
invariant-loop g l = Keeps (g.W.Write.contents l.initial.writer) (g.W.Write.contents l.writer)
