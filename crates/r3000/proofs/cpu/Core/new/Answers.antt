use Rattle.std.proofs.Common.{rules, ◌≡◌, sym, subst}
use Rattle.r3000.specs.Core.{machine_of}
use Rattle.r3000.specs.Machine.{core_at_power_up, no_history}
use Rattle.r3000.specs.Promise.{IsPromised}
use Rattle.r3000.specs.Reached.{IsReached}
use Rattle.r3000.proofs.cpu.Core.new.Goals as goal

pub returns-clause-promise : goal.returns-clause-promise
returns-clause-promise g c =
    let same : machine_of no_history (record { processor = c.new.result; pile = c.args.pile })
    ≡ core_at_power_up c.args.pile = search rules in
    subst (λ m. IsPromised g.B.Bus.means g.B.Bus.steps c.args.pile m) (sym same)
    (record {
      reached = IsReached.power_up;
      promise = c.promise.ensures c.args.pile (core_at_power_up c.args.pile) IsReached.power_up;
    })
