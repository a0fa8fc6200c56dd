use Rattle.std.proofs.Common.{add-one, arith, suc}
use Rattle.bus.proofs.Waits.{bounded, ends, waits_on}
use Rattle.bus.proofs.memory.Bus.settle.Goals.{else-loop-waits-test, then-loop-waits-test+in_default+else-waits-waits-end}
use Rattle.bus.proofs.memory.Bus.settle.Goals as goal

pub returns-in-Some : goal.returns-in-Some
returns-in-Some g c =
    ends c.keeps.ensures.tells c.args.q c.loop-waits.waits c.args.self.now c.loop-waits.self c.request-answer.new.self
    c.loop-waits.invariant c.request-answer.result c.in-Some.outcome c.request-answer.ensures c.in-Some.ensures

pub loop-waits-preserved : goal.loop-waits-preserved
loop-waits-preserved g c =
    rw add-one
    (waits_on c.keeps.ensures.tells c.args.q c.loop-waits.waits c.args.self.now c.loop-waits.self
    c.request-answer.new.self c.request-answer.result c.loop-waits.invariant c.request-answer.ensures
    c.in_default.ensures)

pub unreachable-requires : goal.unreachable-requires
unreachable-requires g c = elim c.loop-waits-test.branch [
  | else-loop-waits-test w ↦ omega arith
  | then-loop-waits-test+in_default+else-waits-waits-end w ↦
      let more =
      waits_on c.keeps.ensures.tells c.args.q c.loop-waits.waits c.args.self.now c.loop-waits.self
      w.request-answer.new.self w.request-answer.result c.loop-waits.invariant w.request-answer.ensures
      w.in_default.ensures in
      omega (
        arith,
        bounded c.keeps.ensures.tells c.args.q (suc c.loop-waits.waits) c.args.self.now
            w.request-answer.new.self (c.keeps.ensures.sound c.args.self.now) more,
      )
]
