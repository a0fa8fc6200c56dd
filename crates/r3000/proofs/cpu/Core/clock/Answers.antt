use Rattle.std.proofs.Common.{rules, ◌≡◌, ◌+◌, Bool, true, false, nat_lt, Ok, refl, ap, ◌∙◌, arith}
use Rattle.std.proofs.lemmas.Bool.{lt-ltb, le-ltb}
use Rattle.microprogram.specs.Cycle.{ends_path}
use Rattle.r3000.specs.Calls.{Clocks, check_cycles}
use Rattle.r3000.specs.Core.{machine_of, machine_of_parts}
use Rattle.r3000.specs.Counts.{report_after}
use Rattle.r3000.specs.Cycle.{Cycle}
use Rattle.r3000.specs.Machine.{current_row}
use Rattle.r3000.specs.declared.report.Report.{Report}
use Rattle.r3000.proofs.Parts.{report_of}
use Rattle.r3000.proofs.Upheld.{clocks, stays}
use Rattle.r3000.proofs.cpu.Core.clock.Goals as goal

-- a cycle was frozen where the frozen ones are more than before
told : (frozen last : Bool) (n : Report) → nat_lt n.frozen (report_after frozen last n).frozen ≡ frozen
told true last n = lt-ltb n.frozen (n.frozen + 1) (omega arith)
told false true n = le-ltb n.frozen n.frozen (omega arith)
told false false n = le-ltb n.frozen n.frozen (omega arith)

pub returns : goal.returns
returns g c h =
    let granted : Ok _ ≡ check_cycles 1 c.args.self.now.processor.counts.report = c.in_ok-check_cycles.ensures in
    let done = c.cycles.ensures h in
    let before = machine_of h c.args.self.now in
    let after = machine_of_parts done.0 c.cycles.new.self c.cycles.new.pile in
    let frozen : Bool = done.1.1 in
    let cycle : Cycle g.B.Bus.steps before frozen after = rw (← done.1.2) done.1.3 in
    let risen =
    ap (λ n. nat_lt before.observation.report.frozen n.frozen) (report_of cycle)
    ∙ told frozen (ends_path (current_row before.processor.state).sequencing) before.observation.report in
    let reply =
    ap (λ f. Ok (record { frozen = f; report = after.observation.report })) risen in
    let clocked : Clocks g.B.Bus.steps before _ after = rw (← granted) (frozen, cycle, reply) in
    (done.0, clocked, clocks c.promise.ensures before after _ clocked)

pub returns-in_err-check_cycles : goal.returns-in_err-check_cycles
returns-in_err-check_cycles g c h =
    let here = machine_of h c.args.self.now in
    (h, rw (← c.in_err-check_cycles.ensures) (search rules, refl), stays c.promise.ensures here here refl)
