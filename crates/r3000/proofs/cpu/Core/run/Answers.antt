use Rattle.std.proofs.Common.{rules, ◌≡◌, ℕ, Ok, Err, refl, arith}
use Rattle.bus.specs.declared.request.Answer.{Answer}
use Rattle.bus.specs.declared.request.Request.{Request}
use Rattle.r3000.specs.Calls.{Runs, check_run}
use Rattle.r3000.specs.Core.{machine_of, machine_of_parts}
use Rattle.r3000.specs.Cycle.{Cycles}
use Rattle.r3000.specs.Machine.{Machine}
use Rattle.r3000.proofs.Upheld.{Anything, runs, stays}
use Rattle.r3000.proofs.cpu.Core.run.Goals as goal

pub returns-in_err-check_run : goal.returns-in_err-check_run
returns-in_err-check_run g c h =
    let denied : Err _ ≡ check_run c.args.count c.args.self.now.processor.counts.report = c.in_err-check_run.ensures in
    let here = machine_of h c.args.self.now in
    (h, rw (← denied) (search rules, refl), stays c.promise.ensures here here refl)

-- as many cycles as were asked for, if they are as many as were made
as_asked : {S : Type 0} (steps : S → Request → Answer → S → Type 0) (says : Machine S → Type 0) (n m : ℕ)
    (c d : Machine S) → Cycles steps says n c d → n ≡ m → Cycles steps says m c d
as_asked steps says n m c d h e = rw e at h

pub returns : goal.returns
returns g c h =
    let done = c.cycles.ensures h in
    let before = machine_of h c.args.self.now in
    let after = machine_of_parts done.0 c.cycles.new.self c.cycles.new.pile in
    let ran : Runs g.B.Bus.steps Anything c.args.count before (Ok c.cycles.new.self.counts.report) after =
    rw (← c.in_ok-check_run.ensures) (as_asked _ _ _ _ _ _ done.1 (omega arith), refl) in
    let upheld = runs c.promise.ensures c.args.count before after (Ok c.cycles.new.self.counts.report) ran in
    (done.0, upheld.0, upheld.1)
