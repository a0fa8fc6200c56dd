use Rattle.std.proofs.Common.{◌≡◌, drop, take}
use Rattle.r3000.specs.Core.{machine_of}
use Rattle.r3000.specs.Machine.{History, core_at_power_up}
use Rattle.r3000.specs.Perform.{MakesCalls}
use Rattle.r3000.specs.Promise.{IsPromised}
use Rattle.r3000.specs.Reached.{IsReached}
use Rattle.r3000.proofs.perform.perform.Given as goal

abbrev pub invariant-loop-exchange : goal.invariant-loop-exchange
invariant-loop-exchange g l = record {
  history : History;
  calls : MakesCalls g.B.Bus.means g.B.Bus.steps (IsPromised g.B.Bus.means g.B.Bus.steps l.fn.pile)
      (core_at_power_up l.fn.pile) (take l.exchange-index l.initial.exchanges) (take l.exchange-index l.exchanges)
      (machine_of history l.core);
  reached : IsReached g.B.Bus.steps l.fn.pile (machine_of history l.core);
  rest : drop l.exchange-index l.exchanges ≡ drop l.exchange-index l.initial.exchanges;
}
