use Rattle.std.proofs.Common.{◌+◌, ◌<◌, [], ◌∷◌, ◌++◌, Some, None, length, get_or, take, sym, refl, ap, ◌∙◌, subst}
use Rattle.std.proofs.Common.{subst₂, arith}
use Rattle.std.proofs.lemmas.List.{drop-set-lt, take_all, take_more, take_more_set}
use Rattle.r3000.specs.Core.{machine_of}
use Rattle.r3000.specs.Machine.{core_at_power_up, no_history}
use Rattle.r3000.specs.Perform.{MakesCalls}
use Rattle.r3000.specs.Promise.{IsPromised}
use Rattle.r3000.specs.declared.call.Call.TheVariants as call
use Rattle.r3000.specs.declared.call.Exchange.{Exchange}
use Rattle.r3000.proofs.Performs.{calls_more, same_rest}
use Rattle.r3000.proofs.perform.perform.Goals as goal

pub loop-exchange-init : goal.loop-exchange-init
loop-exchange-init g c =
    record {
      history = no_history;
      calls = c.new-core.ensures.core;
      reached = c.new-core.ensures.promise.reached;
      rest = refl;
    }

pub loop-exchange-preserved : goal.loop-exchange-preserved
loop-exchange-preserved g c =
    let before = c.loop-exchange.invariant in
    let i = c.loop-exchange.exchange-index in
    let xs = c.args.exchanges.now in
    let ys = c.loop-exchange.exchanges in
    let none : Exchange = record { call = call.Clock; reply = None } in
    let done = c.call.ensures before.history in
    let inside : i < length xs = c.loop-exchange-test.true in
    let inside_still : i < length ys = omega arith in
    let rest = same_rest ys xs i none inside_still inside before.rest in
    let made : Exchange = record { call = (get_or ys i none).call; reply = Some c.call.result } in
    let more =
    calls_more g.B.Bus.means g.B.Bus.steps c.args.pile (core_at_power_up c.args.pile)
    (machine_of before.history c.loop-exchange.core) (machine_of done.0 c.call.new.self) (take i xs) (take i ys)
    (get_or ys i none) c.call.result before.calls before.reached done.1 done.2 in
    record {
      history = done.0;
      calls =
          subst₂
          (λ us vs. MakesCalls g.B.Bus.means g.B.Bus.steps (IsPromised g.B.Bus.means g.B.Bus.steps c.args.pile)
          (core_at_power_up c.args.pile) us vs (machine_of done.0 c.call.new.self))
          (ap (λ x. take i xs ++ x ∷ []) rest.0 ∙ sym (take_more xs i none inside))
          (sym (take_more_set ys i made inside_still)) more;
      reached = (done.2 c.args.pile before.reached).reached;
      rest = drop-set-lt (i + 1) ys i made (omega arith) ∙ rest.1;
    }

pub returns : goal.returns
returns g c =
    let w = c.loop-exchange.invariant in
    let i = c.loop-exchange.exchange-index in (
      w.history,
      record {
        promise =
            subst (λ m. IsPromised g.B.Bus.means g.B.Bus.steps c.args.pile m) c.new-core.ensures.core
            c.new-core.ensures.promise;
        calls =
            subst₂
            (λ us vs. MakesCalls g.B.Bus.means g.B.Bus.steps (IsPromised g.B.Bus.means g.B.Bus.steps c.args.pile)
            (core_at_power_up c.args.pile) us vs (machine_of w.history c.loop-exchange.core))
            (take_all i c.args.exchanges.now c.loop-exchange-test.false)
            (take_all i c.loop-exchange.exchanges (omega arith)) w.calls;
      },
    )
