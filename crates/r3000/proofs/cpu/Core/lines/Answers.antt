use Rattle.std.proofs.Common.{rules, ◌≡◌}
use Rattle.r3000.specs.Calls.{after_lines}
use Rattle.r3000.specs.Core.{machine_of, machine_of_parts}
use Rattle.r3000.proofs.Upheld.{sets}
use Rattle.r3000.proofs.cpu.Core.lines.Goals as goal

pub returns-then-lines-gt-MAX_LINES-clause-core : goal.returns-then-lines-gt-MAX_LINES-clause-core
returns-then-lines-gt-MAX_LINES-clause-core g c h =
    let set : machine_of h c.args.self.now ≡ after_lines c.args.lines (machine_of h c.args.self.now) = search rules in
    (h, set, sets c.promise.ensures c.args.lines (machine_of h c.args.self.now) (machine_of h c.args.self.now) set)

pub returns-clause-core : goal.returns-clause-core
returns-clause-core g c h =
    let before = c.args.self.now.processor in
    let after =
    machine_of_parts h (record { chip = before.chip; lines = c.args.lines; counts = before.counts })
    c.args.self.now.pile in
    let set : after ≡ after_lines c.args.lines (machine_of h c.args.self.now) = search rules in
    (h, set, sets c.promise.ensures c.args.lines (machine_of h c.args.self.now) after set)
