use Rattle.std.proofs.Common.{rules}
use Rattle.r3000.proofs.cpu.Core.call.Goals as goal

pub returns-in-Clock : goal.returns-in-Clock
returns-in-Clock g c h = let d = c.clock.ensures h in (d.0, rw c.in-Clock.is (c.clock.result, search rules, d.1), d.2)

pub returns-in-Run : goal.returns-in-Run
returns-in-Run g c h = let d = c.run.ensures h in (d.0, rw c.in-Run.is (c.run.result, search rules, d.1), d.2)

pub returns-in-Lines : goal.returns-in-Lines
returns-in-Lines g c h = let d = c.lines.ensures.core h in (d.0, rw c.in-Lines.is (search rules, d.1), d.2)

pub returns-in-Register : goal.returns-in-Register
returns-in-Register g c h = let d = c.register.ensures.core h in (d.0, rw c.in-Register.is (search rules, d.1), d.2)

pub returns-in-Snapshot : goal.returns-in-Snapshot
returns-in-Snapshot g c h = let d = c.snapshot.ensures.core h in (d.0, rw c.in-Snapshot.is (cc, d.1), d.2)

pub returns-in-Ledger : goal.returns-in-Ledger
returns-in-Ledger g c h = let d = c.ledger.ensures.core h in (d.0, rw c.in-Ledger.is (search rules, d.1), d.2)

pub returns-in-Look : goal.returns-in-Look
returns-in-Look g c h = let d = c.look.ensures.core h in (d.0, rw c.in-Look.is (search rules, d.1), d.2)
