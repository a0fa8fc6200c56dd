use Rattle.std.proofs.Common.{◌≡◌, ℕ, zero, suc, ◌+◌, Bool, true, false, refl, ap, add-one, arith}
use Rattle.bus.specs.declared.request.Answer.{Answer}
use Rattle.bus.specs.declared.request.Request.{Request}
use Rattle.microprogram.specs.Cycle.{ends_path}
use Rattle.r3000.specs.Core.{machine_of_parts}
use Rattle.r3000.specs.Counts.{report_after}
use Rattle.r3000.specs.Cycle.{Cycles}
use Rattle.r3000.specs.Machine.{Machine, no_history, current_row}
use Rattle.r3000.specs.declared.report.Report.{Report}
use Rattle.r3000.proofs.Parts.{report_of}
use Rattle.r3000.proofs.Upheld.{Anything}
use Rattle.r3000.proofs.processor.Processor.cycles.Goals as goal

-- so many cycles are counted as so many
one_more : (frozen last : Bool) (n : Report) → (report_after frozen last n).cycles ≡ n.cycles + 1
one_more true last n = refl
one_more false true n = refl
one_more false false n = refl

as_many : {S : Type 0} (steps : S → Request → Answer → S → Type 0) (says : Machine S → Type 0) (n : ℕ)
    (c d : Machine S) → Cycles steps says n c d → d.observation.report.cycles ≡ c.observation.report.cycles + n
as_many steps says zero c d h = omega (arith, ap (λ m. m.observation.report.cycles) h)
as_many steps says (suc n) c d h =
    omega (
      arith,
      as_many steps says n c h.0 h.2,
      ap (λ m. m.cycles) (report_of h.3),
      one_more h.1 (ends_path (current_row h.0.processor.state).sequencing) h.0.observation.report,
    )

pub loop-init : goal.loop-init
loop-init g c h = (h, refl)

pub cycle-requires : goal.cycle-requires
cycle-requires g c =
    let so_far =
    as_many g.B.Bus.steps Anything c.loop.counter (machine_of_parts no_history c.args.self.now c.args.pile.now) _
    (c.loop.invariant no_history).1 in
    grind arith

pub loop-preserved : goal.loop-preserved
loop-preserved g c h =
    let so_far = c.loop.invariant h in
    let next = c.cycle.ensures so_far.0 in
    rw add-one (next.0, (_, next.1, so_far.1, next.2, tt))

pub returns : goal.returns
returns g c h =
    let so_far = c.loop.invariant h in
    let all : c.loop.counter ≡ c.args.count = omega arith in
    (so_far.0, rw all at so_far.1)
