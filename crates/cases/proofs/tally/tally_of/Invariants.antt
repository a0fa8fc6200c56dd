use Rattle.std.proofs.Common.{take}
use Rattle.cases.specs.Tally.{CountsCases, no_cases}
use Rattle.cases.proofs.tally.tally_of.Given as goal

abbrev pub invariant-loop-case : goal.invariant-loop-case
invariant-loop-case l = CountsCases no_cases (take l.case-index l.cases) l.tally
